use Rattle.std.proofs.Common.{Bool, subst, sym}
use Rattle.pos_shell.specs.Outputs.{streams_of}
use Rattle.pos_shell.specs.Runs.{Runs}
use Rattle.pos_shell.specs.declared.answer_texts.AnswerFormat.{AnswerFormat}
use Rattle.pos_tool.specs.Scripts.{RunsAsked}
use Rattle.pos_tool.proofs.scripts.run_lines.Goals as goal

pub returns : goal.returns
returns g c =
    let old = streams_of g.R.Source c.args.reader.now g.W.Sink c.args.writer.now in
    let new = streams_of g.R.Source c.run.new.reader g.W.Sink c.run.new.writer in
    subst (λ (typed : Bool). RunsAsked g.F.NamedFiles g.F.File.BlockFile _ _ c.args.files.now g.S.FileSystem
    c.args.system.now c.args.codes c.args.help c.args.scripts.now c.args.profile c.args.totals c.args.json typed old new
    c.run.result) (sym c.if-typed.false) (subst (λ (form : AnswerFormat). Runs g.F.NamedFiles g.F.File.BlockFile _ _
    c.args.files.now g.S.FileSystem c.args.system.now (record { codes = c.args.codes; help = c.args.help; form = form })
    c.args.scripts.now c.args.profile c.args.totals old new c.run.result) c.form_of-form.ensures c.run.ensures)
