use Rattle.pos_shell.proofs.TrialLemmas.{ok_map}
use Rattle.pos_shell.proofs.trials.answers_of.Goals as goal

pub returns : goal.returns
returns c = ok_map c.answer_all-answers.result (λ answers told.
    let (steps, names, run, prints) = told in
    record {
      disk = c.in-Ok.disk;
      empty = c.in-Ok.ensures;
      counter = _;
      spares = _;
      simulated = c.in-Ok-simulate_profile.ensures.made;
      mounted = c.in-Ok-simulate_profile.ensures.mounted;
      steps = steps;
      left = _;
      end = _;
      run = run;
      prints = prints;
    }) c.answer_all-answers.ensures.answers
