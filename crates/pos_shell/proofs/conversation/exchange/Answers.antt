use Rattle.std.proofs.Common.{Bool, List, Ok, [], ap, subst, sym, ◌∙◌, ℕ}
use Rattle.pos_run.specs.LineRuns.{session_of}
use Rattle.pos_script.specs.Lines.{lines_of}
use Rattle.pos_shell.specs.Conversation.{TakesLine, is_quit}
use Rattle.pos_shell.specs.Outputs.{output_of}
use Rattle.pos_shell.specs.Scripts.{PrintsText}
use Rattle.pos_shell.proofs.conversation.exchange.Goals as goal

pub returns-in-Ok-told-clause-told : goal.returns-in-Ok-told-clause-told
returns-in-Ok-told-clause-told g c =
    let (steps, run, told) = c.in-Ok-told.ensures.told in
    let line = c.in-Ok-take_line.line in (
      steps,
      run,
      record {
        text = line.text.items;
        between = output_of g.W.Sink c.write_text.new.writer;
        prompted = c.in-Ok.ensures;
        taken = subst (λ (ended : Bool). TakesLine (g.R.Source.taken c.args.reader.now)
            (g.R.Source.taken c.take_line.new.reader) (Ok (line.text.items, ended))) c.if-line.true
            c.in-Ok-take_line.ensures;
        goes_on = ap (λ (text : List ℕ). is_quit (lines_of text)) (sym c.deref.ensures.value) ∙ sym c.is_quit.ensures
            ∙ c.if-is_quit.false;
        told = subst (λ (text : List ℕ). PrintsText c.args.style.now [] text (session_of g.P.Peripheral c.args.names.now
            c.args.spares.now) steps (output_of g.W.Sink c.write_text.new.writer)
            (output_of g.W.Sink c.print_text-told.new.writer) (Ok c.in-Ok-told.field-0) (session_of g.P.Peripheral
            c.print_text-told.new.names c.print_text-told.new.spares)) c.deref-2.ensures.value told;
      },
    )

pub returns-in-Ok-2-clause-told : goal.returns-in-Ok-2-clause-told
returns-in-Ok-2-clause-told g c =
    let (steps, run, told) = c.in-Ok-told.ensures.told in
    let line = c.in-Ok-take_line.line in (
      steps,
      run,
      record {
        text = line.text.items;
        between = output_of g.W.Sink c.write_text.new.writer;
        prompted = c.in-Ok.ensures;
        taken = subst (λ (ended : Bool). TakesLine (g.R.Source.taken c.args.reader.now)
            (g.R.Source.taken c.take_line.new.reader) (Ok (line.text.items, ended))) c.if-line.false
            c.in-Ok-take_line.ensures;
        goes_on = ap (λ (text : List ℕ). is_quit (lines_of text)) (sym c.deref.ensures.value) ∙ sym c.is_quit.ensures
            ∙ c.if-is_quit.false;
        told = subst (λ (text : List ℕ). PrintsText c.args.style.now [] text (session_of g.P.Peripheral c.args.names.now
            c.args.spares.now) steps (output_of g.W.Sink c.write_text.new.writer)
            (output_of g.W.Sink c.print_text-told.new.writer) (Ok c.in-Ok-told.field-0) (session_of g.P.Peripheral
            c.print_text-told.new.names c.print_text-told.new.spares)) c.deref-2.ensures.value told;
      },
    )
