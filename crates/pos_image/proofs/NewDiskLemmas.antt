-- What formatting leaves.
use Rattle.pos_image.proofs.Common.{First, GATES, HasClosedGates, HasFields, IsCurrent, IsNewDisk, List, SameBut, []}
use Rattle.pos_image.proofs.Common.{ap, arith, cases_lt, get_or, is_open, length, no_files, part, part-part}
use Rattle.pos_image.proofs.Common.{part-splice, splice, true, ℕ, ◌<◌, ◌∙◌, ◌∷◌, ◌≡◌, ◌≤◌}
use Rattle.pos_image.proofs.ChangeLemmas.{opened_gate}
use Rattle.pos_image.proofs.CurrentImageLemmas.{HasBody, first_here, kept_body}
use Rattle.pos_image.proofs.FieldLemmas.{fields}
use Rattle.pos_image.proofs.LogLemmas.{new_image}

-- a gate stays 0 while 0 is written to another one, or to itself
pub stays_closed : (old new : List ℕ) (at place : ℕ) → SameBut at 1 old new → get_or new at 0 ≡ 0
    → get_or old place 0 ≡ 0 → get_or new place 0 ≡ 0
stays_closed old new at place same shut was = grind (arith, same.elsewhere place, cases_lt place at, cases_lt at place)

module _ (closed mid new : List ℕ) (large : 327680 ≤ length closed)
    (gates : (k : ℕ) → k < 6 → get_or closed (get_or GATES k 0) 0 ≡ 0)
    (image : mid ≡ splice closed 1 (0 ∷ 0 ∷ 0 ∷ 0 ∷ 0 ∷ 0 ∷ 0 ∷ 1 ∷ 0 ∷ 0 ∷ 0 ∷ 2 ∷ 0 ∷ 0 ∷ []))
    (same : SameBut 1 14 closed mid) (gate : new ≡ splice mid 0 (165 ∷ [])) where
  long : 327680 ≤ length mid
  long = omega (arith, same.same_length, large)

  opened : (SameBut 0 1 mid new) × (is_open new 0 ≡ true)
  opened = opened_gate mid new 0 (omega (arith, long)) gate

  holds : HasFields mid 0 1 no_files
  holds =
      let text : List ℕ = 0 ∷ 0 ∷ 0 ∷ 0 ∷ 0 ∷ 0 ∷ 0 ∷ 1 ∷ 0 ∷ 0 ∷ 0 ∷ 2 ∷ 0 ∷ 0 ∷ [] in
      let written : part 1 14 mid ≡ text = rw image (part-splice closed text 1 (omega (arith, large))) in
      fields mid no_files 0 1 (omega (arith, long)) (omega arith) (omega arith)
      (part-part 1 14 0 12 1 mid (omega arith) (omega arith) (omega (arith, long)) ∙ ap (part 0 12) written)
      (part-part 1 14 12 2 13 mid (omega arith) (omega arith) (omega (arith, long)) ∙ ap (part 12 2) written)

  stays : (i : ℕ) → 15 ≤ i → get_or closed i 0 ≡ 0 → get_or new i 0 ≡ 0
  stays i far was = opened.0.elsewhere i (omega arith) ∙ same.elsewhere i (omega arith) ∙ was

  -- the closed gates stay so
  still_closed : HasClosedGates new
  still_closed = grind arith

  -- the first slot has the body of no files and sequence 1
  first_current : IsCurrent new First no_files 1
  first_current =
      let was : HasBody mid First no_files 1 = grind (arith, holds) in
      let has = kept_body opened.0 long (omega arith) was in
      grind (arith, opened, long, still_closed, first_here new)

  -- it is the current image, and there is no log
  pub new_disk : IsNewDisk new
  new_disk = record { image = new_image first_current still_closed.first_log; gates = still_closed }
