-- Whether a span holds records is decided by reading them.
use Rattle.pos_log.proofs.Common.{BeginsWith, HasLength, HoldsSome, List, [], ap, arith, cases_Bool, cases_lt}
use Rattle.pos_log.proofs.Common.{from_be_bytes, from_be_bytes-to_be_bytes_4, get_or, inl, inr, length, nat_eq}
use Rattle.pos_log.proofs.Common.{not_from_Decides, part, refl, subst, suc, sym, w32, zero, ℕ, ⊎_elim, ◌++◌, ◌+◌, ◌<◌}
use Rattle.pos_log.proofs.Common.{◌∙◌, ◌∷◌, ◌≡◌, ◌≤◌, ◌⊎◌}
use Rattle.std.proofs.lemmas.Slice.Eq.{bytes_eq-Decides}
use Rattle.pos_log.proofs.RecordLemmas.{all_read, begins_more, open_byte}
use Rattle.pos_log.proofs.ReadLemmas.{begins, none_held}

-- the length at a place is the one that its bytes spell, if any is
the_length : {span : List ℕ} {at : ℕ} (n : ℕ) → HasLength span at n → n ≡ from_be_bytes w32 (part (at + 1) 4 span)
the_length n has = sym (from_be_bytes-to_be_bytes_4 n has.few) ∙ ap (from_be_bytes w32) (sym has.length_is)

-- whether a record of this length fits at a place with the gate behind it
has_or_not : (span : List ℕ) (at n : ℕ) → HasLength span at n ⊎ (HasLength span at n → ⊥)
has_or_not span at n = grind (arith, bytes_eq-Decides, cases_lt, cases_Bool, not_from_Decides)

-- and whether any does
length_or_none : (span : List ℕ) (at : ℕ) → ((n : ℕ) × HasLength span at n) ⊎ ((n : ℕ) → HasLength span at n → ⊥)
length_or_none span at = ⊎_elim (λ has. inl (_, has))
    (λ none. inr (λ m has. none (subst (HasLength span at) (the_length m has) has)))
    (has_or_not span at (from_be_bytes w32 (part (at + 1) 4 span)))

-- reading on from a place
read_on : (left : ℕ) (groups : List (List ℕ)) (at : ℕ) (span : List ℕ) → BeginsWith groups at span
    → length span ≤ at + left → HoldsSome span ⊎ (HoldsSome span → ⊥)
read_on zero groups at span begins end = absurd (let inside = begins.inside in omega arith)
read_on (suc left) groups at span begins end = elim (cases_Bool (nat_eq (get_or span at 0) 165)) [
  | inr shut ↦ inl (groups, all_read groups at span begins shut)
  | inl opened ↦
      let byte = open_byte (get_or span at 0) opened in
      ⊎_elim
      (λ has. read_on left (groups ++ part (at + 5) has.0 span ∷ []) (at + (5 + has.0)) span
      (begins_more groups at has.0 span (part (at + 5) has.0 span) begins byte has.1 refl) (omega (arith, end)))
      (λ none. inr (none_held groups at span begins byte none)) (length_or_none span at)
]

-- a span holds records or doesn't
pub records_or_none : (span : List ℕ) → 0 < length span → HoldsSome span ⊎ (HoldsSome span → ⊥)
records_or_none span some = read_on (length span) [] 0 span (begins span some) (omega arith)
