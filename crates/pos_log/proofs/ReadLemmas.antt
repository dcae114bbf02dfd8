-- The records that a span begins with, as they are read.
use Rattle.pos_log.proofs.Common.{AllByRecursion, BeginsWith, HasLength, HoldsSome, IsShort, List, [], ap, append-nil}
use Rattle.pos_log.proofs.Common.{arith, drop, drop-drop, false, get_or, get_or-drop, length, length-append}
use Rattle.pos_log.proofs.Common.{length-drop, nat_eq, nat_tests, part, record_spelling, refl, spelling, suc, sym, take}
use Rattle.pos_log.proofs.Common.{take-append-drop, take_at, ℕ, ◌++◌, ◌<◌, ◌∙◌, ◌∷◌, ◌≡◌}
use Rattle.pos_log.proofs.UniquenessLemmas.{others_follow, span_split}
use Rattle.std.proofs.lemmas.Grind.{common_steps}

-- nothing has been read yet
pub begins : (span : List ℕ) → 0 < length span → BeginsWith [] 0 span
begins span some = record { short = tt; end_is = refl; front = refl; inside = some }

refused : (others : List (List ℕ)) (at : ℕ) (span : List ℕ) (gate : ℕ) (behind : List ℕ) → at < length span
    → AllByRecursion IsShort others → drop at span ≡ spelling others ++ gate ∷ behind → nat_eq gate 165 ≡ false
    → get_or span at 0 ≡ 165 → ((n : ℕ) → HasLength span at n → ⊥) → ⊥
refused [] at span gate behind inside short is shut byte none = grind (arith, common_steps, nat_tests, get_or-drop)
refused (group ∷ others) at span gate behind inside short is shut byte none =
    let two = length-append (record_spelling group ++ spelling others) (gate ∷ behind) in
    let one = length-append (record_spelling group) (spelling others) in
    none (length group) record {
      few = short.0;
      length_is = ap (take 4) (sym (drop-drop 1 at span)) ∙ ap (λ (l : List ℕ). take 4 (drop 1 l)) is;
      fits = omega (arith, ap length is, length-drop at span);
    }

-- where no record fits behind an open gate, the span holds no records
pub none_held : (groups : List (List ℕ)) (at : ℕ) (span : List ℕ) → BeginsWith groups at span → get_or span at 0 ≡ 165
    → ((n : ℕ) → HasLength span at n → ⊥) → HoldsSome span → ⊥
none_held groups at span begins byte none (all, holds) =
    let gate = get_or span (length (spelling all)) 0 in
    let both : spelling groups ++ drop at span ≡ spelling all ++ gate ∷ drop (suc (length (spelling all))) span =
    cc (take-append-drop at span, begins.front, span_split all span holds) in
    let follow = others_follow groups all (drop at span) gate _ begins.short holds.short both holds.behind in
    refused follow.0 at span gate _ begins.inside follow.3 follow.2 holds.behind byte none

-- a span that was read whole
pub whole_read : {read out : List ℕ} (items : List ℕ) {span : List ℕ} {n size : ℕ} → n ≡ size → length out ≡ size
    → length span ≡ size → read ≡ take n (out ++ drop (length out) items) → out ≡ part 0 (length out) span → read ≡ span
whole_read items n_is out_long span_long read_is out_is = grind (arith, common_steps, take_at, append-nil)
