-- What was taken from a source and given to a sink, step after step.
use Rattle.std.proofs.Common.{List, Ok, [], ap, append-nil, append_assoc, arith, refl, suc, sym, take, zero, ℕ, ◌++◌}
use Rattle.std.proofs.Common.{◌∙◌, ◌≡◌, ◌≤◌, length}
use Rattle.pos_streams.specs.Streams.{Appends, Fails, Given, IsWhole, Taken, TakesBytes, end_after, given_after}
use Rattle.pos_streams.specs.Streams.{taken_after, write_fault_after}

-- no bytes were given
pub Appends-nil : (a : Given) → Appends a a []
Appends-nil a = ap (λ bytes. record a { bytes = bytes }) (sym (append-nil a.bytes))

-- a write that failed gave no bytes
pub Fails-nil : (a b : Given) → b ≡ write_fault_after a → Fails a b []
Fails-nil a b failed = failed ∙ ap write_fault_after (Appends-nil a)

-- bytes and then more were given
given_twice : (a : Given) (xs ys : List ℕ) → given_after (given_after a xs) ys ≡ given_after a (xs ++ ys)
given_twice a xs ys = ap (λ bytes. record a { bytes = bytes }) (append_assoc a.bytes xs ys)

pub Appends-trans : (a b c : Given) (xs ys : List ℕ) → Appends a b xs → Appends b c ys → Appends a c (xs ++ ys)
Appends-trans a b c xs ys first second = second ∙ ap (λ g. given_after g ys) first ∙ given_twice a xs ys

pub Fails-trans : (a b c : Given) (xs ys : List ℕ) → Appends a b xs → Fails b c ys → Fails a c (xs ++ ys)
Fails-trans a b c xs ys first second =
    second ∙ ap (λ g. write_fault_after (given_after g ys)) first ∙ ap write_fault_after (given_twice a xs ys)

-- no bytes were taken
pub taken_none : (a : Taken) → a ≡ taken_after a []
taken_none a = ap (λ bytes. record a { bytes = bytes }) (sym (append-nil a.bytes))

-- bytes and then more were taken
pub taken_twice : (a : Taken) (xs ys : List ℕ) → taken_after (taken_after a xs) ys ≡ taken_after a (xs ++ ys)
taken_twice a xs ys = ap (λ bytes. record a { bytes = bytes }) (append_assoc a.bytes xs ys)

-- a read that gave nothing found the end
pub found_end : (old : Taken) (buffer : List ℕ) (count : ℕ) (new : Taken) → count ≡ 0
    → TakesBytes old buffer (Ok count) new → (new ≡ end_after old) × IsWhole old
found_end old buffer zero new none takes = takes
found_end old buffer (suc n) new none takes = absurd (omega arith)

-- a read that gave bytes took them
pub found_more : (old : Taken) (buffer : List ℕ) (count : ℕ) (new : Taken) → (count ≡ 0 → ⊥)
    → TakesBytes old buffer (Ok count) new → (count ≤ length buffer) × (new ≡ taken_after old (take count buffer))
found_more old buffer zero new some takes = absurd (some refl)
found_more old buffer (suc n) new some takes = takes
