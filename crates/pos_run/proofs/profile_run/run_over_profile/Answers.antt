use Rattle.pos_run.proofs.Common.{Ghosts, Wrapped, inr, wrapped_state}
use Rattle.pos_run.proofs.RunLemmas.{runs_honestly, runs_over_any}
use Rattle.pos_run.proofs.profile_run.run_over_profile.Goals as goal

-- the states of simulated peripherals
abbrev wrapped : Ghosts Wrapped
wrapped = record { state = λ w. wrapped_state w }

pub returns : goal.returns
returns g c =
    let made = c.in-Ok.ensures.made in
    let carried = c.run-result.ensures.script.1 in record {
      leaves = rw c.end_counter-disk.ensures.disk (inr (
        (λ left honest leaves. runs_honestly g.D.Disk wrapped made carried left honest leaves),
        (λ left failures. runs_over_any g.D.Disk wrapped made carried left failures),
      ));
      keys = inr (record {
        counter = _;
        spares = _;
        simulated = made;
        mounted = c.in-Ok.ensures.mounted;
        left = _;
        end = _;
        run = carried;
        disk_left = c.end_counter-disk.ensures.disk;
      });
    }
