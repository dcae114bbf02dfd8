-- What a move to layout 2 did, by what the store's recovery and migration did.
use Rattle.std.proofs.Common.{Err, IsErrOf, List, Ok, Result, [], ap, inl, inr, map, refl, subst, ℕ, ⊎_elim, ◌∷◌, ◌≡◌}
use Rattle.std.proofs.Common.{◌⊎◌, ◌∙◌}
use Rattle.pos_dir.specs.declared.file.File.{File}
use Rattle.pos_disk.specs.State.{HasNotFailed, IsAtRest, LeavesOnly, Rises}
use Rattle.pos_disk.specs.declared.device.Disk.{Ghosts}
use Rattle.pos_disk.proofs.MomentLemmas.{followed_by, weaker}
use Rattle.pos_image.specs.declared.layout.Layout.{Layout}
use Rattle.pos_image.specs.declared.layout.Layout.TheVariants.{Layout1, Layout2}
use Rattle.pos_image.specs.Layout.{log_place}
use Rattle.pos_store.specs.Migrations.{AnswersMigration, KeepsFirstLayout, Migrates}
use Rattle.pos_store.specs.StoreViews.{StoreState, StoreView, Off, Ready, WhenReady, settled}
use Rattle.pos_store.specs.Recoveries.{Recovers, RecoversOneOf}
use Rattle.pos_store.specs.Standing.{Standing, Stands, IsOneOf, StandsFor, StandsForOneOf, StandsForEither, LeavesOneOf}
use Rattle.pos_store.specs.Standing.{Passes}
use Rattle.pos_store.specs.declared.fault.StoreFault.{StoreFault}
use Rattle.pos_store.specs.declared.fault.StoreFault.TheVariants as fault
use Rattle.pos_store.specs.MovedDisks.{AnswersMove, MovesAny, MovesOneOf, moved}

-- a new store over a disk
abbrev pub new_store : {D : Type 0} → D → StoreView D
new_store disk = record { disk = disk; layout = Layout1; state = Off; tail = 0 }

-- one of the candidates is among them
among : (candidates : List Standing) (standing : Standing) (bytes : List ℕ) → IsOneOf candidates standing
    → StandsFor standing bytes → StandsForOneOf candidates bytes
among [] standing bytes is stands = absurd is
among (candidate ∷ candidates) standing bytes is stands =
    ⊎_elim (λ this. inl (rw this at stands)) (λ rest. inr (among candidates standing bytes rest stands)) is

-- and with its files moved it is among the candidates that were moved
one_moved : (candidates : List Standing) (standing : Standing) → IsOneOf candidates standing
    → IsOneOf (map moved candidates) (moved standing)
one_moved [] standing is = absurd is
one_moved (candidate ∷ candidates) standing is =
    ⊎_elim (λ this. inl (ap moved this)) (λ rest. inr (one_moved candidates standing rest)) is

module _ {D : Type 0} {bound : Ghosts D} {disk : D} where
  module _ (mid : D) (layout : Layout) (files : List File) (sequence tail : ℕ)
      (recovers : Recovers bound (new_store disk) (Ok tt) (record {
        disk = mid;
        layout = layout;
        state = Ready files sequence;
        tail = tail;
      })) (honest : bound.honest disk) (candidates : List Standing)
      (leaves : LeavesOneOf candidates (bound.state disk)) where
    one : RecoversOneOf candidates (bound.state disk) (bound.state mid) (Ok tt) layout (Ready files sequence)
    one = recovers.one_of honest candidates leaves

    -- what was found, by its own layout or by layout 2, is one of the candidates, or one that was moved
    found_or_moved : (bytes : List ℕ)
        → StandsForOneOf (Stands layout files sequence ∷ Stands Layout2 files 1 ∷ []) bytes
        → StandsForEither candidates (map moved candidates) bytes
    found_or_moved bytes (inl was) = inl (among candidates _ bytes one.found was)
    found_or_moved bytes (inr (inl is)) =
        inr (among (map moved candidates) _ bytes (one_moved candidates _ one.found) is)
    found_or_moved bytes (inr (inr never)) = absurd never

    -- a crash of the recovery
    moments : LeavesOnly (bound.state disk) (bound.state mid) (StandsForEither candidates (map moved candidates))
    moments = weaker (bound.state disk) (bound.state mid) (StandsForEither candidates candidates)
        (StandsForEither candidates (map moved candidates))
        (λ bytes. ⊎_elim (λ was. inl was) (λ is. inl is)) one.passes.any_moment

    -- a crash at any moment of both calls, where one of the migration leaves these
    ends : (new : D) (result : Result (Unit {0}) StoreFault) (after : List Standing)
        → ((bytes : List ℕ) → StandsForOneOf after bytes
        → StandsForOneOf (Stands layout files sequence ∷ Stands Layout2 files 1 ∷ []) bytes)
        → Passes (bound.state mid) (bound.state new) (Stands layout files sequence ∷ []) after
        → AnswersMove candidates (bound.state disk) result (bound.state new)
        → MovesOneOf candidates (bound.state disk) (bound.state new) result
    ends new result after are passes answer = record {
      answer = answer;
      any_moment = followed_by (bound.state disk) (bound.state mid) (bound.state new)
          (StandsForEither candidates (map moved candidates)) moments (weaker (bound.state mid) (bound.state new)
          (StandsForEither (Stands layout files sequence ∷ []) after) (StandsForEither candidates
          (map moved candidates)) (λ bytes. ⊎_elim (⊎_elim (λ this. found_or_moved bytes (inl this)) (λ no. absurd no))
          (λ is. found_or_moved bytes (are bytes is))) passes.any_moment);
      now = λ bytes may. found_or_moved bytes (are bytes (passes.now bytes may));
    }

    -- nothing was moved
    stays : (why : StoreFault) (new : StoreView D)
        → new ≡ record { disk = mid; layout = layout; state = Ready files sequence; tail = tail }
        → AnswersMove candidates (bound.state disk) (Err why) (bound.state mid)
        → MovesOneOf candidates (bound.state disk) (bound.state new.disk) (Err why)
    stays why new same answer =
        rw same (record { answer = answer; any_moment = moments; now = λ bytes may. inl (one.passes.now bytes may) })

    -- the files were moved
    goes : (new : StoreView D) → layout ≡ Layout1
        → new ≡ record { disk = new.disk; layout = Layout2; state = Ready files 1; tail = log_place Layout2 }
        → Passes (bound.state mid) (bound.state new.disk) (Stands layout files sequence ∷ [])
        (settled new.layout new.state (Stands layout files sequence ∷ Stands Layout2 files 1 ∷ []))
        → WhenReady new.state (IsAtRest (bound.state new.disk))
        → MovesOneOf candidates (bound.state disk) (bound.state new.disk) (Ok tt)
    goes new first same passes at_rest =
        let now : Passes (bound.state mid) (bound.state new.disk) (Stands layout files sequence ∷ [])
        (Stands Layout2 files 1 ∷ []) =
        subst (Passes (bound.state mid) (bound.state new.disk) (Stands layout files sequence ∷ []))
        (ap (λ (v : StoreView D). settled v.layout v.state (Stands layout files sequence ∷ Stands Layout2 files 1 ∷ []))
        same) passes in
        ends new.disk (Ok tt) (Stands Layout2 files 1 ∷ []) (λ bytes is. inr is) now (record {
          files = files;
          sequence = sequence;
          found = rw first at one.found;
          at_rest = subst (λ (s : StoreState). WhenReady s (IsAtRest (bound.state new.disk)))
              (ap (λ (v : StoreView D). v.state) same) at_rest;
          now = now.now;
        })

    -- the disk failed
    fails : (new : StoreView D) → new.state ≡ Off
        → Passes (bound.state mid) (bound.state new.disk) (Stands layout files sequence ∷ [])
        (settled new.layout new.state (Stands layout files sequence ∷ Stands Layout2 files 1 ∷ []))
        → Rises (bound.state mid).failures (bound.state new.disk).failures
        → MovesOneOf candidates (bound.state disk) (bound.state new.disk) (Err fault.Device)
    fails new off passes rises =
        ends new.disk (Err fault.Device) (Stands layout files sequence ∷ Stands Layout2 files 1 ∷ [])
        (λ bytes is. is) (rw off at passes) (subst (λ n. Rises n (bound.state new.disk).failures)
        (⊎_elim (λ no. absurd cc) (λ same. same) (recovers.counts honest)) rises)

    -- what a migration of what was found answers, by its layout
    found_moves : (by : Layout) → layout ≡ by → (result : Result (Unit {0}) StoreFault) (new : StoreView D)
        → AnswersMigration (Ready files sequence) by
        (record { disk = mid; layout = layout; state = Ready files sequence; tail = tail }) result new
        → Passes (bound.state mid) (bound.state new.disk) (Stands layout files sequence ∷ [])
        (settled new.layout new.state (Stands layout files sequence ∷ Stands Layout2 files 1 ∷ []))
        → WhenReady new.state (IsAtRest (bound.state new.disk))
        → (IsErrOf result fault.Device → Rises (bound.state mid).failures (bound.state new.disk).failures)
        → MovesOneOf candidates (bound.state disk) (bound.state new.disk) result
    found_moves Layout1 is (Ok u) new answer passes at_rest device = goes new is answer passes at_rest
    found_moves Layout1 is (Err fault.NoMemory) new answer passes at_rest device =
        stays fault.NoMemory new answer (recovers.watches honest, one.passes.now)
    found_moves Layout1 is (Err fault.Device) new answer passes at_rest device = fails new answer.0 passes (device refl)
    found_moves Layout1 is (Err _) new answer passes at_rest device = absurd answer
    found_moves Layout2 is result new answer passes at_rest device =
        rw answer.0 (stays fault.AlreadyLayout2 new answer.1 (
          record { files = files; sequence = sequence; found = rw is at one.found },
          (recovers.watches honest, one.passes.now),
        ))

  -- a disk of which files were found, or not, and what became of them
  pub migrated_moves : {mid : D} {layout : Layout} (state : StoreState) {tail : ℕ}
      → Recovers bound (new_store disk) (Ok tt) (record { disk = mid; layout = layout; state = state; tail = tail })
      → {result : Result (Unit {0}) StoreFault} (new : StoreView D)
      → Migrates bound (record { disk = mid; layout = layout; state = state; tail = tail }) result new
      → (bound.honest new.disk → WhenReady new.state (IsAtRest (bound.state new.disk))) → bound.honest disk
      → MovesAny (bound.state disk) (bound.state new.disk) result
  migrated_moves Off recovers new migrates at_rest honest candidates leaves =
      absurd (recovers.one_of honest candidates leaves).found
  migrated_moves {mid} {layout} (Ready files sequence) {tail} recovers
      {result} new migrates at_rest honest candidates leaves =
      let there = recovers.keeps.honest.0 honest in
      found_moves mid layout files sequence tail recovers honest candidates leaves layout refl result new
      migrates.answer (migrates.crash there) (at_rest (migrates.keeps.honest.0 there)) (migrates.device there)

  pub moved_rest : {mid new : StoreView D} {found result : Result (Unit {0}) StoreFault}
      → Recovers bound (new_store disk) found mid → Migrates bound mid result new → bound.honest disk
      → KeepsFirstLayout (bound.state disk).reading (bound.state new.disk).reading
  moved_rest recovers migrates honest = rw (recovers.reading honest) at (migrates.rest (recovers.keeps.honest.0 honest))

  -- the disk failed in neither call, where neither answers its fault
  pub moved_counts : {mid new : StoreView D} {result : Result (Unit {0}) StoreFault}
      → Recovers bound (new_store disk) (Ok tt) mid → Migrates bound mid result new → bound.honest disk
      → IsErrOf result fault.Device ⊎ HasNotFailed (bound.state disk) (bound.state new.disk)
  moved_counts {mid} recovers migrates honest =
      let first : HasNotFailed (bound.state disk) (bound.state mid.disk) =
      ⊎_elim (λ is. absurd cc) (λ same. same) (recovers.counts honest) in
      ⊎_elim (λ is. inl is) (λ same. inr (same ∙ first)) (migrates.counts (recovers.keeps.honest.0 honest))
