use Rattle.std.proofs.Common.{[], Err, List, ap, drop, inr, refl, subst, sym, take, ◌++◌, ◌+◌, ◌∷◌, ℕ}
use Rattle.pos_counter.proofs.RunLemmas.{runs_join}
use Rattle.pos_run.proofs.Common.{Appends-nil}
use Rattle.pos_run.specs.LineRuns.{session_of}
use Rattle.pos_shell.specs.Outputs.{output_of}
use Rattle.pos_shell.specs.Scripts.{AreTurns, PrintsText, Turn}
use Rattle.pos_shell.proofs.RunLemmas.{are_join, in_parts, one_taken, turns_join}
use Rattle.pos_shell.proofs.scripts.print_scripts.Goals as goal

pub loop-script-init : goal.loop-script-init
loop-script-init g c = (
  c.requires.sound,
  c.requires.spares,
  [],
  [],
  refl,
  refl,
  record { prints = (refl, refl); given = Appends-nil _; flushed = inr refl },
)

pub returns-in-Err-clause-told : goal.returns-in-Err-clause-told
returns-in-Err-clause-told g c =
    let (sound, spares, first, turns, ran, are, done) = c.loop-script.invariant in
    let (last, run, stopped) = c.in-Err.ensures.told in
    let i = c.loop-script.script-index in
    let scripts = c.args.scripts.now in
    let script = c.script-item.result in (
      first ++ last,
      runs_join g.D.Disk g.P.Peripheral _ _ _ _ _ ran run,
      record {
        earlier = take i scripts;
        script = script;
        later = drop (i + 1) scripts;
        split = in_parts scripts i script c.loop-script-test.true c.script-item.is;
        turns = turns;
        are = are;
        first_steps = first;
        last_steps = last;
        steps_are = refl;
        between = output_of g.W.Sink c.loop-script.writer;
        middle = session_of g.P.Peripheral c.loop-script.names c.loop-script.spares;
        done = done;
        stopped = subst (λ (text : List ℕ). PrintsText c.args.style.now script.name.now text
            (session_of g.P.Peripheral c.loop-script.names c.loop-script.spares) last
            (output_of g.W.Sink c.loop-script.writer) (output_of g.W.Sink c.print_text-done.new.writer)
            (Err c.in-Err.fault) (session_of g.P.Peripheral c.print_text-done.new.names c.print_text-done.new.spares))
            c.deref.ensures.value stopped;
      },
    )

pub loop-script-preserved : goal.loop-script-preserved
loop-script-preserved g c =
    let (sound, spares, first, turns, ran, are, done) = c.loop-script.invariant in
    let (last, run, (answers, prints, written)) = c.in_default.ensures.told in
    let i = c.loop-script.script-index in
    let scripts = c.args.scripts.now in
    let script = c.script-item.result in
    let turn : Turn = record { name = script.name.now; script = c.deref.result.now; answers = answers } in (
      c.in_default.ensures.sound,
      c.in_default.ensures.spares,
      first ++ last,
      turns ++ turn ∷ [],
      runs_join g.D.Disk g.P.Peripheral _ _ _ _ _ ran run,
      subst (λ xs. AreTurns xs (turns ++ turn ∷ []))
          (sym (one_taken scripts i script c.loop-script-test.true c.script-item.is)) (are_join (take i scripts) turns
          script turn (ap (λ (t : List ℕ). (script.name.now, t)) c.deref.ensures.value) are),
      turns_join turns turn last done prints written,
    )
