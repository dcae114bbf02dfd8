use Rattle.pos_shell.proofs.CutLemmas.{leaves_cuts}
use Rattle.pos_shell.specs.ProfileRun.{steps_of}
use Rattle.pos_shell.proofs.runs.run_over_totals.Goals as goal

pub returns : goal.returns
returns g c =
    let ran = c.run_lines-answer.ensures in
    let mirrored = c.file_is_mirrored.ensures in record {
      after = _;
      answer = _;
      runs = ran.runs;
      file = mirrored.file;
      cuts = λ left leaves. leaves_cuts _ _ c.args.totals c.requires _ mirrored.cut left (steps_of ran.runs)
          (ran.moments left tt leaves);
      closed = c.close_totals.ensures;
      ends = c.at_end.ensures;
    }
