use Rattle.pos_run.proofs.Common.{Appends-nil, IsLine, None, Ok, Result, Some, [], codes, refl, subst}
use Rattle.pos_streams.specs.declared.sink.WriteFault.{WriteFault}
use Rattle.pos_run.specs.Sessions.{session_in}
use Rattle.pos_run.proofs.LineLemmas.{one_line}
use Rattle.pos_run.proofs.scripts.run_and_print.Goals as goal

pub returns-in-Quiet-clause-line : goal.returns-in-Quiet-clause-line
returns-in-Quiet-clause-line g c = λ bytes is.
    let quiet = subst (λ line. IsLine line bytes) c.in-Quiet.is is in
    let done : Result (Unit {0}) WriteFault = Ok tt in
    let session = session_in g.P.Peripheral c.args.session.now in
    one_line session refl bytes None _ _ done _ _ (record { steps = []; run = refl; becomes = rw quiet refl })
    (Appends-nil _)

pub returns-in-Misspelled-clause-line : goal.returns-in-Misspelled-clause-line
returns-in-Misspelled-clause-line g c = λ bytes is.
    let (loud, wrong) = subst (λ line. IsLine line bytes) c.in-Misspelled.is is in
    let session = session_in g.P.Peripheral c.args.session.now in
    one_line session refl bytes (Some (codes "bad line")) _ _ _ _ _
    (record { steps = []; run = refl; becomes = rw (loud, wrong) refl }) c.print_reply.ensures

pub returns-in-Words-clause-line : goal.returns-in-Words-clause-line
returns-in-Words-clause-line g c = λ bytes is.
    let (loud, spelled, same) = subst (λ line. IsLine line bytes) c.in-Words.is is in
    let line = c.run_words.ensures.line in
    let carried = line.carried in
    let session = session_in g.P.Peripheral c.args.session.now in
    one_line session refl bytes (Some line.reply) _ _ _ _ _ (record {
      steps = carried.steps;
      run = carried.run;
      becomes = rw (loud, spelled, ← same) carried.becomes;
    }) line.written
