-- What an append did, by what its two steps did.
use Rattle.pos_log.proofs.Common.{Appends, CountsFaults, DiskState, Err, Ghosts, HasNotFailed, HoldsMore, HoldsRecords}
use Rattle.pos_log.proofs.Common.{IsLogReady, IsReady, KeepsRecords, KeepsSpan, LeavesOnly, List, Ok, PutsBytes, Rises}
use Rattle.pos_log.proofs.Common.{SameBut, View, [], arith, followed_by, inl, layout_of, length, log_of, log_over}
use Rattle.pos_log.proofs.Common.{log_place, part, part-splice, places, rules, slot_size, span_length, spelling}
use Rattle.pos_log.proofs.Common.{same_on, spliced_same, text_behind_gate, weaker, wider, ℕ, ⊎_elim, ◌++◌, ◌+◌, ◌-◌, ◌<◌, ◌^◌}
use Rattle.pos_log.proofs.Common.{◌∙◌, ◌∷◌, ◌≡◌, ◌≤◌}
use Rattle.pos_disk.specs.Keeps.{KeepsDisk}
use Rattle.pos_image.specs.DiskCalls.{Keeps}
use Rattle.pos_image.specs.Layout.{start}
use Rattle.pos_image.proofs.ChangeLemmas.{opened_gate}
use Rattle.pos_log.proofs.RecordLemmas.{either_more, kept_records, opened_more, spelling_length}
use Rattle.pos_log.proofs.LayoutLemmas.{text_length}
use Rattle.pos_log.proofs.UniquenessLemmas.{one_log}
use Rattle.pos_log.specs.declared.fault.LogFault.TheVariants as fault

-- What a write into the log span and its sync did to the disk, whatever they answered.
pub record WritesThrough {D : Type 0} (bound : Ghosts D) (images : View D) (disk : D) (at : ℕ) (bytes : List ℕ)
    (end : D) : Type 0 where
  pub moments : bound.honest disk → LeavesOnly (bound.state disk) (bound.state end) (KeepsSpan (layout_of images.slot)
      images.body images.sequence at (length bytes) (log_of (bound.state disk).reading))
  pub rest : bound.honest disk → Keeps (start images.slot + log_place (layout_of images.slot) + at) (length bytes)
      (bound.state disk) (bound.state end)
  pub keeps : KeepsDisk bound disk end

-- a call that answered no fault of the disk left its count
pub never_failed : {T : Type 0} (old new : DiskState) {made : T} → CountsFaults old new (Ok made) → HasNotFailed old new
never_failed old new counts = ⊎_elim (λ is. absurd cc) (λ same. same) counts

module _ {D : Type 0} (bound : Ghosts D) (images : View D) (tail : ℕ) (group : List ℕ)
    (ready : IsLogReady bound (log_over images tail)) (low : log_place (layout_of images.slot) ≤ tail)
    (fits : tail + 6 + length group ≤ slot_size (layout_of images.slot)) where
  abbrev old : DiskState
  old = bound.state images.disk

  -- where the gate of the record lies in the span
  abbrev place : ℕ
  place = tail - log_place (layout_of images.slot)

  -- whatever records the span holds, they end there
  place_is : bound.honest images.disk → (groups : List (List ℕ)) → HoldsRecords groups (log_of old.reading)
      → place ≡ length (spelling groups)
  place_is honest groups holds = grind (arith, one_log)

  -- and the record fits behind them, with a gate
  in_span : bound.honest images.disk → place + 6 + length group ≤ length (log_of old.reading)
  in_span honest = let here = places images.slot in let long = span_length (ready.images.sound honest).current in
      omega arith

  abbrev IsKept : DiskState → Type 0
  IsKept new = LeavesOnly old new
      (KeepsRecords (layout_of images.slot) images.body images.sequence (log_of old.reading) group)

  -- nothing but the record and the gate behind it was written
  abbrev WritesRecord : DiskState → Type 0
  WritesRecord new = Keeps (start images.slot + tail) (6 + length group) old new

  -- the disk failed in one of the steps
  failed : (end : D) (now : View D) → now ≡ record images { disk = end }
      → (bound.honest images.disk → IsKept (bound.state end))
      → (bound.honest images.disk → WritesRecord (bound.state end)) → KeepsDisk bound images.disk end
      → (bound.honest images.disk → Rises old.failures (bound.state end).failures)
      → Appends bound (log_over images tail) group (Err fault.Device) (log_over now tail)
  failed end now is moments rest keeps rises = grind arith

  module _ (disk : D) (puts : WritesThrough bound images images.disk (place + 1) (text_behind_gate group) disk) where
    -- at any moment of the first step
    first_moments : bound.honest images.disk → IsKept (bound.state disk)
    first_moments honest = weaker _ _ _ _ (λ c keeps. record {
      image = keeps.image;
      log = λ groups holds. let here = place_is honest groups holds in
          inl (kept_records groups holds keeps.log (omega arith));
    }) (puts.moments honest)

    -- and whatever it answered
    first_rest : bound.honest images.disk → WritesRecord (bound.state disk)
    first_rest honest = let long = text_length group in wider (omega arith) (omega arith) (puts.rest honest)

    pub failed_put : (now : View D) → now ≡ record images { disk = disk }
        → (bound.honest images.disk → Rises old.failures (bound.state disk).failures)
        → Appends bound (log_over images tail) group (Err fault.Device) (log_over now tail)
    failed_put now is rises = failed disk now is first_moments first_rest puts.keeps rises

    module _ (put : bound.honest images.disk → PutsBytes (place + 1) (text_behind_gate group) old (bound.state disk))
        (end : D) (opens : WritesThrough bound images disk place (165 ∷ []) end) where
      few : length group < 2 ^ 32
      few = let here = places images.slot in omega arith

      beside : bound.honest images.disk
          → SameBut (place + 1) (5 + length group) (log_of old.reading) (log_of (bound.state disk).reading)
      beside honest =
          let long = text_length group in
          rw (put honest) (wider (omega arith) (omega arith)
          (spliced_same (log_of old.reading) (text_behind_gate group) (place + 1) (omega (arith, in_span honest))))

      there : bound.honest images.disk
          → part (place + 1) (5 + length group) (log_of (bound.state disk).reading) ≡ text_behind_gate group
      there honest = grind (arith, text_length, part-splice, in_span)

      -- and of the second
      all_moments : bound.honest images.disk → IsKept (bound.state end)
      all_moments honest = followed_by _ (bound.state disk) _ _ (first_moments honest)
          (weaker _ _ _ _ (λ c keeps. record {
            image = keeps.image;
            log = λ groups holds. either_more groups group holds place (place_is honest groups holds)
                (in_span honest) few (beside honest) (there honest) keeps.log;
          }) (opens.moments (puts.keeps.honest.0 honest)))

      all_rest : bound.honest images.disk → WritesRecord (bound.state end)
      all_rest honest = same_on (first_rest honest)
          (wider (omega arith) (omega arith) (opens.rest (puts.keeps.honest.0 honest)))

      both_keep : KeepsDisk bound images.disk end
      both_keep = search (rules, puts.keeps, opens.keeps)

      pub failed_open : (now : View D) → now ≡ record images { disk = end }
          → (bound.honest disk → Rises (bound.state disk).failures (bound.state end).failures)
          → Appends bound (log_over images tail) group (Err fault.Device) (log_over now tail)
      failed_open now is rises = grind (arith, failed, all_moments, all_rest, both_keep)

      module _ (opened : bound.honest disk → PutsBytes place (165 ∷ []) (bound.state disk) (bound.state end)) where
        more : bound.honest images.disk → HoldsMore (log_of old.reading) group (log_of (bound.state end).reading)
        more honest groups holds =
            let gate = opened_gate _ _ place (omega (arith, in_span honest, (beside honest).same_length))
            (opened (puts.keeps.honest.0 honest)) in
            opened_more groups group holds place (place_is honest groups holds) (in_span honest) few (beside honest)
            (there honest) gate.0 gate.1

        pub appended : (now : View D) (behind : ℕ) → now ≡ record images { disk = end }
            → behind ≡ tail + 5 + length group → IsReady bound now
            → (bound.honest images.disk → HasNotFailed old (bound.state disk))
            → (bound.honest disk → HasNotFailed (bound.state disk) (bound.state end))
            → Appends bound (log_over images tail) group (Ok tt) (log_over now behind)
        appended now behind is behind_is is_ready first second =
            let ready : IsLogReady bound (log_over (record images { disk = end }) (tail + 5 + length group)) = record {
              images = rw is at is_ready;
              records = λ honest.
                  let was = both_keep.honest.1 honest in
                  let found = ready.records was in (
                    found.0 ++ group ∷ [],
                    more was found.0 found.1,
                    omega (arith, found.2, spelling_length found.0 group),
                  );
            } in
            let counts = λ (honest : bound.honest images.disk). second (puts.keeps.honest.0 honest) ∙ first honest in
            let small : slot_size (layout_of images.slot) < tail + 6 + length group → ⊥ = λ over. omega arith in
            rw (is, behind_is) (search (rules, ready, more, all_moments, all_rest, counts, both_keep, small))
