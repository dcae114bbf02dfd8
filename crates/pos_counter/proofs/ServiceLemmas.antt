-- What a counter serves by a step of its machine.
use Rattle.pos_counter.proofs.Common.{AreDevicesSound, Counter, DiskGhosts, Ghosts, GivesOrders, IsCounterSound}
use Rattle.pos_counter.proofs.Common.{IsSettled, IsSound, IsStep, IsStepBeside, List, MayLeave, Request, Response}
use Rattle.pos_counter.proofs.Common.{Serves, Standing, Step}
use Rattle.pos_counter.proofs.Common.{Totals, TotalsPart, [], machine, part_with, rules, settled, subst, sym, ℕ, ◌≡◌}
use Rattle.pos_store.proofs.CrashLemmas.{stays}
use Rattle.pos_counter.proofs.CrashLemmas.{settled_twice}
use Rattle.pos_counter.proofs.StepLemmas.{step_sound}

-- what is left now is left at this very moment
abbrev pub OnlyNow : {D : Type 0} → DiskGhosts D → D → Type 0
OnlyNow bound disk = (bytes : List ℕ) → bound.honest disk
    → (bound.state disk).left_since (bound.state disk).moment bytes → MayLeave (bound.state disk) bytes

module _ {D P : Type 0} {peripherals : Ghosts P} {old new : Counter D P} where
  -- a counter over the same machine is sound
  pub same_sound : ((part : TotalsPart) → machine peripherals new part ≡ machine peripherals old part)
      → IsCounterSound peripherals old → AreDevicesSound peripherals new.devices → IsCounterSound peripherals new
  same_sound same sound devices =
      record { machine = λ part. subst IsSound (sym (same part)) (sound.machine part); devices = devices }

  -- a counter is sound behind a step of its machine, whatever its totals
  pub still_sound : (q : Request) (r : Response) (one other : TotalsPart) → IsCounterSound peripherals old
      → AreDevicesSound peripherals new.devices → Step (machine peripherals old one) q r (machine peripherals new other)
      → IsCounterSound peripherals new
  still_sound q r one other sound devices step = record {
    machine = λ part.
        let there = step_sound q r step (sound.machine one) in
        record { kinds = there.kinds; places = there.places; covers = there.covers };
    devices = devices;
  }

  -- a step in which the totals have no part, and what a sound counter is behind it
  pub steps_beside : {q : Request} {r : Response} → IsCounterSound peripherals old
      → AreDevicesSound peripherals new.devices → new.totals ≡ old.totals → new.tally ≡ old.tally
      → GivesOrders peripherals old q r new
      → ((part : TotalsPart) → Step (machine peripherals old part) q r (machine peripherals new part))
      → record { step : IsStepBeside peripherals old q r new; sound : IsCounterSound peripherals new }
  steps_beside {q} {r} sound devices totals tally orders step =
      let part = part_with old.totals.totals [] 0 in
      record {
        step = record { step = step; totals = totals; orders = orders; tally = tally };
        sound = still_sound q r part part sound devices (step part);
      }

module _ {D P : Type 0} (bound : DiskGhosts D) (peripherals : Ghosts P) (old new : Counter D P) (q : Request)
    (r : Response) where
  module _ (tally : new.tally ≡ old.tally) (orders : GivesOrders peripherals old q r new) (totals : Totals)
      (only : OnlyNow bound old.totals.disk)
      (disk : new.totals.disk ≡ old.totals.disk)
      (is : new.totals.totals ≡ totals) (same : (left : List Standing)
      → settled totals.layout totals.mode left ≡ settled old.totals.totals.layout old.totals.totals.mode left) where
    -- the step is one for whatever the machine has of the disk
    abbrev pub StepsAnyhow : Type 0
    StepsAnyhow = (left : List Standing) (failures : ℕ) → IsSettled old.totals.totals left → Step (machine peripherals
        old (part_with old.totals.totals left failures)) q r (machine peripherals new (part_with totals left failures))

    -- a step in which the disk has no part, over totals that know the same files, is one for all that the disk may
    -- leave
    pub quiet_step : StepsAnyhow → IsStep bound peripherals old q r new
    quiet_step step = search (rules, stays, orders)

    -- and what a sound counter serves
    pub quiet_serves : IsCounterSound peripherals old → AreDevicesSound peripherals new.devices → StepsAnyhow
        → Serves bound peripherals old q r new
    quiet_serves sound devices step =
        let was = old.totals.totals in
        let left = settled was.layout was.mode [] in
        record {
          step = quiet_step step;
          sound = still_sound q r (part_with was left 0) (part_with totals left 0) sound devices
              (step left 0 (settled_twice was.layout [] was.mode));
        }

  -- a step in which the totals have no part is a step for all that the disk may leave
  pub beside_is_step : OnlyNow bound old.totals.disk → IsStepBeside peripherals old q r new
      → IsStep bound peripherals old q r new
  beside_is_step only beside = search (rules, quiet_step)

  -- and what a sound counter serves
  pub stays_serves : new.tally ≡ old.tally → GivesOrders peripherals old q r new → OnlyNow bound old.totals.disk
      → IsCounterSound peripherals old → new.totals ≡ old.totals
      → AreDevicesSound peripherals new.devices
      → ((part : TotalsPart) → Step (machine peripherals old part) q r (machine peripherals new part))
      → Serves bound peripherals old q r new
  stays_serves tally orders only sound totals devices step =
      let both = steps_beside sound devices totals tally orders step in
      record { step = beside_is_step only both.step; sound = both.sound }
