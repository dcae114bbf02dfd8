use Rattle.std.proofs.Common.{inl, inr, refl}
use Rattle.pos_run.proofs.RunLemmas.{runs_through}
use Rattle.pos_run.specs.Simulations.{wrapped_devices}
use Rattle.pos_shell.proofs.CutLemmas.{leaves_nothing, leaves_steps}
use Rattle.pos_shell.proofs.profile_run.run_lines.Goals as goal

pub returns-in-Err : goal.returns-in-Err
returns-in-Err g c = record {
  runs = inl (refl, refl, c.in-Err.ensures.handed_back);
  moments = λ left honest leaves. leaves_nothing g.D.Disk (λ disk bytes honest since. g.met.D.Disk.only_now disk bytes
      honest since) _ _ left c.in-Err.ensures.handed_back honest leaves;
}

pub returns : goal.returns
returns g c =
    let (steps, names, run, told) = c.print_all-result.ensures.told in
    let through = runs_through g.D.Disk wrapped_devices
    (λ disk bytes honest since. g.met.D.Disk.only_now disk bytes honest since) _ _ steps run in record {
      runs = inr (record {
        counter = _;
        spares = _;
        simulated = c.in-Ok.ensures.made;
        mounted = c.in-Ok.ensures.mounted;
        left = _;
        end = _;
        steps = steps;
        told = told;
        through = through;
        disk_left = c.end_counter-disk.ensures.disk;
      });
      moments = λ left honest leaves. leaves_steps g.D.Disk c.in-Ok.ensures.made steps through
          c.end_counter-disk.ensures.disk left honest leaves;
    }
