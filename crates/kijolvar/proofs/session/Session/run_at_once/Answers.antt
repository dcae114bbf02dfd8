use Rattle.kijolvar.proofs.Common.{refl}
use Rattle.pos_script.specs.Lines.{lines_of}
use Rattle.kijolvar.proofs.HostedLemmas.{file_follows}
use Rattle.kijolvar.proofs.RunLemmas.{lines_fixed}
use Rattle.kijolvar.specs.Tills.{session_in}
use Rattle.kijolvar.specs.contracts.device.DevicePeripheral.TheImpl.{ghosts as devices}
use Rattle.kijolvar.specs.contracts.till_disk.TillDiskDisk.TheImpl.{ghosts as disks}
use Rattle.kijolvar.proofs.session.Session.run_at_once.Goals as goal

pub returns : goal.returns
returns c =
    let old = c.self.inside.till_state in
    let ran = c.run_given_lines-self-inside in
    let lines = rw c.clear.ensures at ran.ensures.lines in
    let file = lines_fixed disks devices old.counter ran.new.counter (session_in devices old)
    (lines_of c.args.lines.now) _ _ ran.result _ lines in
    let in_step = rw c.disk.ensures at c.is_in_step.ensures in
    rw (← c.self.view_is) record {
      lines = lines;
      held = rw c.self.view_is c.requires;
      left = refl;
      rest = record {
        file = file;
        in_step = in_step;
        follows = file_follows old.counter.totals.disk ran.new.counter.totals.disk file in_step;
        told = refl;
        failed = refl;
        profile = refl;
        orders = refl;
        is_driven = refl;
      };
    }
