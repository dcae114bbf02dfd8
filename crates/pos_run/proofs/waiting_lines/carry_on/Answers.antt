use Rattle.std.proofs.Common.{All, Bool, Global, List, Vec, arith, false, refl, true≢false, ℕ}
use Rattle.std.proofs.lemmas.List.Elements.{All-tail}
use Rattle.pos_drive.specs.declared.courses.Progress.{Progress}
use Rattle.pos_script.specs.Lines.{lines_of}
use Rattle.pos_run.proofs.Common.{Ok, ap, session_of, subst, sym, true, ◌∙◌, ◌≡◌}
use Rattle.pos_run.proofs.WaitingLemmas.{CarriesSo, carries_begin, carries_held, carries_line, carries_none}
use Rattle.pos_run.proofs.WaitingLemmas.{carries_stay}
use Rattle.pos_run.proofs.WaitingLemmas.{cuts_off, first_of, leaves_as, none_left, some_left}
use Rattle.pos_run.specs.WaitingLines.{IsOneLine, LeavesReady, is_out}
use Rattle.pos_run.specs.declared.waiting_lines.LineProgress.TheVariants as held
use Rattle.pos_run.proofs.waiting_lines.carry_on.Goals as goal

pub returns-then-is_out-clause-carried : goal.returns-then-is_out-clause-carried
returns-then-is_out-clause-carried g c = (
  carries_none g.D.Disk g.P.Peripheral g.met.D.Disk.only_now c.args.counter.now
      (session_of g.P.Peripheral c.args.names.now c.args.spares.now)
      c.args.lines.now.items (g.W.Sink.given c.args.writer.now),
  (
    λ none. none,
    subst (λ (p : Progress). is_out p ≡ true) c.progress.ensures (sym c.is_out.ensures ∙ c.if-is_out.true),
  ),
  λ out. record { waits = refl; counter = refl; session_stays = refl; all_left = refl; nothing = refl },
)

-- the host has no order, and is to get none
idle : (far : Progress) {now : Progress} {is : Bool} → far ≡ now → is ≡ is_out far → is ≡ false → is_out now ≡ false
idle far same is none = ap is_out (sym same) ∙ sym is ∙ none

never : {A : Type 0} (far : Progress) → is_out far ≡ false → is_out far ≡ true → A
never far none out = absurd (true≢false (sym out ∙ none))

pub loop-line-init : goal.loop-line-init
loop-line-init g c = record {
  carries = carries_begin g.D.Disk g.P.Peripheral g.met.D.Disk.only_now g.P.Awaits.course c.args.counter.now
      (session_of g.P.Peripheral c.args.names.now c.args.spares.now) c.args.lines.now.items
      (g.W.Sink.given c.args.writer.now);
  lines = c.requires.lines;
  sound = c.requires.sound;
  spares = c.requires.spares;
}

pub loop-line-preserved-in-Ok-Printed : goal.loop-line-preserved-in-Ok-Printed
loop-line-preserved-in-Ok-Printed g c =
    let first = session_of g.P.Peripheral c.args.names.now c.args.spares.now in
    let old = session_of g.P.Peripheral c.loop-line.names c.loop-line.spares in
    let new = session_of g.P.Peripheral c.run_settled.new.names c.run_settled.new.spares in
    let before = g.W.Sink.given c.loop-line.writer in
    let after = g.W.Sink.given c.run_settled.new.writer in
    let rest = c.pop_front.new.self.items in
    let split = first_of c.loop-line.lines.items
    (grind (arith, c.in-Some.ensures.variant)) c.in-Some.ensures.lookup c.pop_front.ensures.rest in
    let lines = subst (All IsOneLine) split c.loop-line.invariant.lines in
    let (line, is) = lines 0 c.in-Some.line.now (omega arith) in
    let told : c.run_settled.result ≡ Ok held.Printed = grind (arith, c.in-Ok-Printed.is, c.in-Ok-Printed.field-0-is) in
    let tells =
    leaves_as g.D.Disk g.P.Peripheral g.P.Awaits.course LeavesReady c.loop-line.counter c.run_settled.new.counter old
    new line before after told (c.run_settled.ensures.line line (ap lines_of c.as_slice.ensures.value ∙ is)) in
    record {
      carries = carries_line g.D.Disk g.P.Peripheral g.P.Awaits.course c.args.counter.now c.loop-line.counter first new
          (g.W.Sink.given c.args.writer.now) after g.met.D.Disk.only_now is (subst (λ (xs : List (Vec ℕ Global)).
          CarriesSo g.D.Disk g.P.Peripheral g.P.Awaits.course c.args.counter.now first c.args.lines.now.items xs
          (g.W.Sink.given c.args.writer.now) before c.loop-line.counter old) split c.loop-line.invariant.carries) tells;
      lines = All-tail IsOneLine c.in-Some.line.now rest lines;
      sound = c.run_settled.ensures.sound;
      spares = c.run_settled.ensures.spares;
    }

pub returns-in-Ok-Waits-clause-carried : goal.returns-in-Ok-Waits-clause-carried
returns-in-Ok-Waits-clause-carried g c =
    let first = session_of g.P.Peripheral c.args.names.now c.args.spares.now in
    let old = session_of g.P.Peripheral c.loop-line.names c.loop-line.spares in
    let new = session_of g.P.Peripheral c.run_settled.new.names c.run_settled.new.spares in
    let before = g.W.Sink.given c.loop-line.writer in
    let after = g.W.Sink.given c.run_settled.new.writer in
    let split =
    first_of c.loop-line.lines.items (grind (arith, c.in-Some.ensures.variant)) c.in-Some.ensures.lookup refl in
    let (line, is) = subst (All IsOneLine) split c.loop-line.invariant.lines 0 c.in-Some.line.now (omega arith) in
    let waits : c.run_settled.result ≡ Ok held.Waits = grind (arith, c.in-Ok-Waits.is, c.in-Ok-Waits.field-0-is) in
    let (holds, out) =
    leaves_as g.D.Disk g.P.Peripheral g.P.Awaits.course LeavesReady c.loop-line.counter c.run_settled.new.counter old
    new line before after waits (c.run_settled.ensures.line line (ap lines_of c.as_slice.ensures.value ∙ is)) in (
      carries_held g.D.Disk g.P.Peripheral g.P.Awaits.course c.args.counter.now c.loop-line.counter first new
          (g.W.Sink.given c.args.writer.now) after c.loop-line.invariant.carries holds,
      (λ none. absurd (some_left split none), out),
      never _ (idle _ c.progress.ensures c.is_out.ensures c.if-is_out.false),
    )

pub returns-in-Ok-NoMemory-clause-carried : goal.returns-in-Ok-NoMemory-clause-carried
returns-in-Ok-NoMemory-clause-carried g c =
    let first = session_of g.P.Peripheral c.args.names.now c.args.spares.now in
    let old = session_of g.P.Peripheral c.loop-line.names c.loop-line.spares in
    let new = session_of g.P.Peripheral c.run_settled.new.names c.run_settled.new.spares in
    let before = g.W.Sink.given c.loop-line.writer in
    let after = g.W.Sink.given c.run_settled.new.writer in
    let split =
    first_of c.loop-line.lines.items (grind (arith, c.in-Some.ensures.variant)) c.in-Some.ensures.lookup refl in
    let (line, is) = subst (All IsOneLine) split c.loop-line.invariant.lines 0 c.in-Some.line.now (omega arith) in
    let wants : c.run_settled.result ≡ Ok held.NoMemory =
    grind (arith, c.in-Ok-NoMemory.is, c.in-Ok-NoMemory.field-0-is) in
    let (holds, reported) =
    leaves_as g.D.Disk g.P.Peripheral g.P.Awaits.course LeavesReady c.loop-line.counter c.run_settled.new.counter old
    new line before after wants (c.run_settled.ensures.line line (ap lines_of c.as_slice.ensures.value ∙ is)) in (
      carries_held g.D.Disk g.P.Peripheral g.P.Awaits.course c.args.counter.now c.loop-line.counter first new
          (g.W.Sink.given c.args.writer.now) after c.loop-line.invariant.carries holds,
      (some_left split, reported),
      never _ (idle _ c.progress.ensures c.is_out.ensures c.if-is_out.false),
    )

pub returns-in-Err-clause-carried : goal.returns-in-Err-clause-carried
returns-in-Err-clause-carried g c =
    let first = session_of g.P.Peripheral c.args.names.now c.args.spares.now in
    let old = session_of g.P.Peripheral c.loop-line.names c.loop-line.spares in
    let new = session_of g.P.Peripheral c.run_settled.new.names c.run_settled.new.spares in
    let before = g.W.Sink.given c.loop-line.writer in
    let after = g.W.Sink.given c.run_settled.new.writer in
    let split = first_of c.loop-line.lines.items
    (grind (arith, c.in-Some.ensures.variant)) c.in-Some.ensures.lookup c.pop_front-in-Err.ensures.rest in
    let (line, is) = subst (All IsOneLine) split c.loop-line.invariant.lines 0 c.in-Some.line.now (omega arith) in
    let (cuts, (ready, quiet)) =
    leaves_as g.D.Disk g.P.Peripheral g.P.Awaits.course LeavesReady c.loop-line.counter c.run_settled.new.counter old
    new line before after c.in-Err.is (c.run_settled.ensures.line line (ap lines_of c.as_slice.ensures.value ∙ is)) in (
      cuts_off g.D.Disk g.P.Peripheral g.P.Awaits.course c.args.counter.now c.loop-line.counter first new
          (g.W.Sink.given c.args.writer.now) after is (subst (λ (xs : List (Vec ℕ Global)). CarriesSo g.D.Disk
          g.P.Peripheral g.P.Awaits.course c.args.counter.now first c.args.lines.now.items xs
          (g.W.Sink.given c.args.writer.now) before c.loop-line.counter old) split c.loop-line.invariant.carries) cuts,
      ready,
      idle _ c.progress.ensures c.is_out.ensures c.if-is_out.false,
    )

pub returns-in-Err-clause-lines : goal.returns-in-Err-clause-lines
returns-in-Err-clause-lines g c =
    let rest = c.pop_front-in-Err.new.self.items in
    let split = first_of c.loop-line.lines.items
    (grind (arith, c.in-Some.ensures.variant)) c.in-Some.ensures.lookup c.pop_front-in-Err.ensures.rest in
    All-tail IsOneLine c.in-Some.line.now rest (subst (All IsOneLine) split c.loop-line.invariant.lines)

pub returns-clause-carried : goal.returns-clause-carried
returns-clause-carried g c =
    let none = none_left c.loop-line.lines.items (λ some. c.in_default.ensures.variant.1 (grind (arith, some))) in (
      carries_stay g.D.Disk g.P.Peripheral g.met.D.Disk.only_now g.P.Awaits.course c.loop-line.invariant.carries
          c.settle.ensures.stays c.settle.ensures.alone c.settle.ensures.tally none,
      (none, c.settle.ensures.progress),
      never _ (idle _ c.progress.ensures c.is_out.ensures c.if-is_out.false),
    )
