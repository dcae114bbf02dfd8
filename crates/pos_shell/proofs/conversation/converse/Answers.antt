use Rattle.std.proofs.Common.{Ok, Result, [], ap, append-nil, arith, inl, inr, length, refl, subst, sym, ◌++◌, ◌+◌, ◌∙◌}
use Rattle.std.proofs.Common.{◌∷◌, ◌≤◌}
use Rattle.std.proofs.lemmas.List.{length-append}
use Rattle.pos_counter.proofs.RunLemmas.{runs_join}
use Rattle.pos_run.proofs.Common.{Appends-nil, taken_none}
use Rattle.pos_run.specs.LineRuns.{session_of}
use Rattle.pos_shell.proofs.ConversationLemmas.{answers_more, ends_typed}
use Rattle.pos_shell.specs.Conversation.{PrintsExchange, most}
use Rattle.pos_shell.specs.Outputs.{output_of, streams_of}
use Rattle.pos_shell.specs.declared.conversation.Next.{Next}
use Rattle.pos_shell.specs.declared.scripts.ScriptsFault.{ScriptsFault}
use Rattle.pos_shell.proofs.conversation.converse.Goals as goal

pub loop-turn-init : goal.loop-turn-init
loop-turn-init g c = (
  c.requires.sound,
  c.requires.spares,
  [],
  [],
  refl,
  refl,
  record { ended = tt; taken = taken_none _; prints = (refl, refl); given = Appends-nil _; flushed = inr refl },
)

pub loop-turn-preserved : goal.loop-turn-preserved
loop-turn-preserved g c =
    let (sound, spares, first, turns, run, count, done) = c.loop-turn.invariant in
    let session = session_of g.P.Peripheral c.args.names.now c.args.spares.now in
    let middle = session_of g.P.Peripheral c.loop-turn.names c.loop-turn.spares in
    let between = streams_of g.R.Source c.loop-turn.reader g.W.Sink c.loop-turn.writer in
    let (last, ran, told) = c.exchange-told.ensures.told in
    let new = streams_of g.R.Source c.exchange-told.new.reader g.W.Sink c.exchange-told.new.writer in
    let left = session_of g.P.Peripheral c.exchange-told.new.names c.exchange-told.new.spares in
    let one =
    subst (λ (told : Result Next ScriptsFault). PrintsExchange c.args.style.now middle last between new told left)
    (c.in-Ok-Asked.is ∙ ap (λ (next : Next). Ok next) (rw c.in-Ok-Asked.is at c.in-Ok-Asked.field-0-is)) told in
    let (turn, more) = answers_more turns session middle left first last _ done one in (
      c.exchange-told.ensures.sound,
      c.exchange-told.ensures.spares,
      first ++ last,
      turns ++ turn ∷ [],
      runs_join g.D.Disk g.P.Peripheral _ _ _ _ _ run ran,
      length-append turns (turn ∷ []) ∙ ap (λ n. n + 1) count,
      more,
    )

pub returns-in-Ok-Ended-clause-told : goal.returns-in-Ok-Ended-clause-told
returns-in-Ok-Ended-clause-told g c =
    let (sound, spares, first, turns, run, count, done) = c.loop-turn.invariant in
    let session = session_of g.P.Peripheral c.args.names.now c.args.spares.now in
    let middle = session_of g.P.Peripheral c.loop-turn.names c.loop-turn.spares in
    let between = streams_of g.R.Source c.loop-turn.reader g.W.Sink c.loop-turn.writer in
    let (last, ran, told) = c.exchange-told.ensures.told in
    let new = streams_of g.R.Source c.exchange-told.new.reader g.W.Sink c.exchange-told.new.writer in
    let left = session_of g.P.Peripheral c.exchange-told.new.names c.exchange-told.new.spares in
    let one =
    subst (λ (told : Result Next ScriptsFault). PrintsExchange c.args.style.now middle last between new told left)
    (c.in-Ok-Ended.is ∙ ap (λ (next : Next). Ok next) (rw c.in-Ok-Ended.is at c.in-Ok-Ended.field-0-is)) told in (
      first ++ last,
      runs_join g.D.Disk g.P.Peripheral _ _ _ _ _ run ran,
      record {
        turns = turns;
        first_steps = first;
        last_steps = last;
        steps_are = refl;
        between = between;
        middle = middle;
        done = done;
        last = inl (ends_typed new (output_of g.W.Sink c.end_line.new.writer) c.end_line.result one c.end_line.ensures);
      },
    )

pub returns-in-Err-clause-told : goal.returns-in-Err-clause-told
returns-in-Err-clause-told g c =
    let (sound, spares, first, turns, run, count, done) = c.loop-turn.invariant in
    let session = session_of g.P.Peripheral c.args.names.now c.args.spares.now in
    let middle = session_of g.P.Peripheral c.loop-turn.names c.loop-turn.spares in
    let between = streams_of g.R.Source c.loop-turn.reader g.W.Sink c.loop-turn.writer in
    let (last, ran, told) = c.in-Err.ensures.told in (
      first ++ last,
      runs_join g.D.Disk g.P.Peripheral _ _ _ _ _ run ran,
      record {
        turns = turns;
        first_steps = first;
        last_steps = last;
        steps_are = refl;
        between = between;
        middle = middle;
        done = done;
        last = inl (inl told);
      },
    )

pub returns-clause-told : goal.returns-clause-told
returns-clause-told g c =
    let (sound, spares, first, turns, run, count, done) = c.loop-turn.invariant in
    let session = session_of g.P.Peripheral c.args.names.now c.args.spares.now in
    let middle = session_of g.P.Peripheral c.loop-turn.names c.loop-turn.spares in
    let between = streams_of g.R.Source c.loop-turn.reader g.W.Sink c.loop-turn.writer in
    let many : most ≤ length turns = omega (arith, count, c.loop-turn-test.false) in (
      first,
      run,
      record {
        turns = turns;
        first_steps = first;
        last_steps = [];
        steps_are = sym (append-nil first);
        between = between;
        middle = middle;
        done = done;
        last = inr (many, (refl, refl), refl, refl);
      },
    )
