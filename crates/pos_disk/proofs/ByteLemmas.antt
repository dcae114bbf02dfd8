-- Bytes written over others, and parts of bytes.
use Rattle.pos_disk.proofs.Common.{InRange, List, append_assoc, arith, cases_lt, common_steps, drop, drop-take, drop_at}
use Rattle.pos_disk.proofs.Common.{elements, get_or, get_or-append_right, get_or_append_left, length, part, splice}
use Rattle.pos_disk.proofs.Common.{take_at, ℕ, ◌+◌, ◌-◌, ◌<◌, ◌≡◌, ◌≤◌, ◌⊎◌}

-- place i is in the range or not
pub in_range : (at n i : ℕ) → InRange at n i ⊎ (¬ (InRange at n i))
in_range at n i = grind (arith, cases_lt i at, cases_lt i (at + n))

-- bytes put over others leave the length
pub length-splice : {A : Type 0} (old new : List A) (at : ℕ) → at + length new ≤ length old
    → length (splice old at new) ≡ length old
length-splice old new at fits = grind (arith, common_steps)

-- within its range stand the new ones
pub spliced_within : {A : Type 0} (d : A) (old new : List A) (at i : ℕ) → at + length new ≤ length old
    → InRange at (length new) i → get_or (splice old at new) i d ≡ get_or new (i - at) d
spliced_within d old new at i fits inside = grind (arith, common_steps, get_or-append_right, get_or_append_left)

-- and everywhere else the old ones
pub spliced_elsewhere : {A : Type 0} (d : A) (old new : List A) (at i : ℕ) → at + length new ≤ length old
    → ¬ (InRange at (length new) i) → get_or (splice old at new) i d ≡ get_or old i d
spliced_elsewhere d old new at i fits outside =
    grind (arith, common_steps, get_or-append_right, get_or_append_left, in_range at (length new) i)

-- the same of bytes, as a read gives them
pub splice_elsewhere : (old bytes : List ℕ) (at i : ℕ) → at + length bytes ≤ length old
    → ¬ (InRange at (length bytes) i) → get_or (splice old at bytes) i 0 ≡ get_or old i 0
splice_elsewhere old bytes at i fits outside = spliced_elsewhere 0 old bytes at i fits outside

-- the bytes that were written
pub part-splice : (old bytes : List ℕ) (at : ℕ) → at + length bytes ≤ length old
    → part at (length bytes) (splice old at bytes) ≡ bytes
part-splice old bytes at fits = grind (arith, common_steps, append_assoc, drop_at, take_at)

-- a part has the length that was asked for
pub length-part : (at n : ℕ) (bytes : List ℕ) → at + n ≤ length bytes → length (part at n bytes) ≡ n
length-part at n bytes fits = grind (arith, common_steps)

-- and the bytes from its place on
pub get_or-part : (at n : ℕ) (bytes : List ℕ) (i place : ℕ) → place ≡ at + i → i < n
    → get_or (part at n bytes) i 0 ≡ get_or bytes place 0
get_or-part at n bytes i place is inside = grind (arith, common_steps)

-- two lists that agree in a range have the same part there
pub same_part : (xs ys : List ℕ) {at : ℕ} (n : ℕ) → at + n ≤ length xs → length xs ≡ length ys
    → ((i : ℕ) → InRange at n i → get_or xs i 0 ≡ get_or ys i 0) → part at n xs ≡ part at n ys
same_part xs ys n fits long agree = grind (arith, common_steps, elements, agree)

-- a part of a part
pub part-part : (at n from m place : ℕ) (bytes : List ℕ) → place ≡ at + from → from + m ≤ n → at + n ≤ length bytes
    → part place m bytes ≡ part from m (part at n bytes)
part-part at n from m place bytes is within fits =
    let rest : n ≡ from + (n - from) = omega arith in
    rw (is, rest) (rw (drop-take from (n - from) (drop at bytes)) (grind (arith, common_steps)))
