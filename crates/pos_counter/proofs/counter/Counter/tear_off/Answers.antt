use Rattle.pos_counter.proofs.Common.{ap, refl}
use Rattle.pos_counter.proofs.HardwareLemmas.{on_hardware}
use Rattle.pos_counter.proofs.HostsLemmas.{same_sound}
use Rattle.pos_counter.proofs.PaperLemmas.{torn_sound}
use Rattle.pos_counter.specs.Machine.{machine_with}
use Rattle.pos_counter.specs.Paper.{IsTorn}
use Rattle.pos_counter.proofs.counter.Counter.tear_off.Goals as goal

pub returns-in-Ok-clause-torn : goal.returns-in-Ok-clause-torn
returns-in-Ok-clause-torn g c =
    let old = c.args.self.now in
    record {
      machine = λ part. on_hardware _ _ _ _ _ _ part c.in-Some.place _
          (λ place. IsTorn) c.in-Some.ensures.0 (c.in-Ok.ensures.done old.controls.items);
      totals = refl;
      tally = refl;
    }

pub returns-in-Ok-clause-sound : goal.returns-in-Ok-clause-sound
returns-in-Ok-clause-sound g c =
    let old = c.args.self.now in
    record {
      machine = λ part. torn_sound (on_hardware _ _ _ _ _ _ part c.in-Some.place _ (λ place. IsTorn) c.in-Some.ensures.0
          (c.in-Ok.ensures.done old.controls.items)) (c.requires.sound.machine part);
      devices = c.in-Ok.ensures.sound;
    }

pub returns-in-Err-clause-torn : goal.returns-in-Err-clause-torn
returns-in-Err-clause-torn g c =
    let old = c.args.self.now in (
      record {
        machine = λ part. ap (λ ds. machine_with old.controls.items old.claims ds old.totals_name part)
            (c.in-Err.ensures.done old.controls.items);
        totals = refl;
      },
      refl,
    )

pub returns-in-Err-clause-sound : goal.returns-in-Err-clause-sound
returns-in-Err-clause-sound g c =
    let old = c.args.self.now in
    same_sound (c.in-Err.ensures.done old.controls.items) c.requires.sound c.in-Err.ensures.sound
