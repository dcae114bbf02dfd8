-- The example's runs, machine by machine.
use Rattle.std.specs.Prelude.{pos}
use Rattle.pos_counter.proofs.Common.{TheTotals}
use Rattle.pos_counter.proofs.Common.{◌+◌, ◌++◌, Answered, AreLeft, CallOf, Control, DeviceEnabled, Failure, HardTotals}
use Rattle.pos_counter.proofs.Common.{IsOneOf, Layout1, List, Machine, Mode, None, Off, PlainFile, Ready, Refused}
use Rattle.pos_counter.proofs.Common.{Request, Response, Run, Some, Standing, Stands, Step, Truth, [], after_set, arith}
use Rattle.pos_counter.proofs.Common.{false, inl, inr, length, new_control, new_machine, numbered, opened, plain, refl}
use Rattle.pos_counter.proofs.Common.{rules, sets_enabled, signs_at, steps_into_doubt, true, ℕ, ◌∷◌}
use Rattle.pos_service.specs.declared.call.Call.TheVariants.{Create}
use Rattle.pos_counter.specs.Examples.{steps_through_doubt}
use Rattle.pos_counter.proofs.laws.one_group_in_doubt.Goals as goal

-- the example's machine with one control
abbrev with_one : Control → Mode → ℕ → List Standing → ℕ → Machine
with_one control mode next left failures = record {
  controls = control ∷ [];
  devices = new_machine.devices;
  claims = new_machine.claims;
  totals_name = new_machine.totals_name;
  totals = record {
    totals = record { layout = Layout1; mode = mode; tail = 0; next = next; area = None; transactions = None ∷ [] };
    left = left;
    failures = failures;
  };
}

-- the file of the group
abbrev a_file : PlainFile
a_file = record { name = 97 ∷ []; bytes = 0 ∷ [] }

abbrev both : List Standing
both = Stands Layout1 [] 1 ∷ Stands Layout1 (a_file ∷ []) 1 ∷ Stands Layout1 (a_file ∷ []) 2 ∷ []

abbrev one_opened : Control
one_opened = opened (new_control HardTotals) (Some TheTotals)

abbrev one_enabled : Control
one_enabled = after_set (signs_at new_machine one_opened) one_opened DeviceEnabled (Truth true)

abbrev disabled : List Standing → ℕ → Machine
disabled left failures = with_one one_opened Off 1 left failures

-- a recovery finds these files, which are one of those that are left
abbrev recovered : List PlainFile → ℕ → ℕ → Machine
recovered files sequence failures = with_one one_enabled (Ready (numbered 1 files) sequence) (1 + length files)
    (Stands Layout1 (plain (numbered 1 files)) sequence ∷ []) failures

recovers : {left : List Standing} (failures : ℕ) (files : List PlainFile) {sequence : ℕ}
    → IsOneOf left (Stands Layout1 files sequence) → AreLeft 1 (length files)
    → Step (disabled left failures) (sets_enabled true).0 (sets_enabled true).1 (recovered files sequence failures)
recovers failures files found handles = search rules

abbrev in_doubt : Machine
in_doubt = with_one one_enabled Off 1 both 1

-- the disk fails in the group
doubts : Step (recovered [] 1 0) (CallOf 0 (Create (97 ∷ []) (pos 1) false)) (Answered (Refused Failure 0)) in_doubt
doubts = search rules

-- the run into doubt, and one behind it
abbrev behind_doubt : (steps : List (Request × Response)) (last : Machine) → Run in_doubt steps last
    → Run new_machine (steps_into_doubt ++ steps) last
behind_doubt steps last rest =
    let found = recovers 0 [] (inl refl) (omega arith) in (
      _,
      (omega arith, refl, refl),
      (_, record { outcome = (refl, refl) }, (recovered [] 1 0, found, (in_doubt, doubts, rest))),
    )

-- the next recovery decides on the group
abbrev decided : (files : List PlainFile) (sequence : ℕ) → IsOneOf both (Stands Layout1 files sequence)
    → AreLeft 1 (length files) → Run new_machine steps_through_doubt (recovered files sequence 1)
decided files sequence found handles =
    behind_doubt (sets_enabled false ∷ sets_enabled true ∷ []) (recovered files sequence 1) (
      _,
      record { outcome = (refl, refl) },
      (recovered files sequence 1, recovers 1 files found handles, refl),
    )

pub returns-clause-doubt : goal.returns-clause-doubt
returns-clause-doubt c = record { last = in_doubt; run = behind_doubt [] in_doubt refl; is = refl }

pub returns-clause-kept : goal.returns-clause-kept
returns-clause-kept c = record {
  last = recovered (a_file ∷ []) 2 1;
  run = decided (a_file ∷ []) 2 (inr (inr (inl refl))) (omega arith);
  is = refl;
}

pub returns-clause-dropped : goal.returns-clause-dropped
returns-clause-dropped c = record { last = recovered [] 1 1; run = decided [] 1 (inl refl) (omega arith); is = refl }
