use Rattle.std.proofs.Common.{inl, map, subst}
use Rattle.clap.specs.Words.{app_of}
use Rattle.pos_tool.proofs.ParseLemmas.{accepted, met, told}
use Rattle.pos_tool.specs.Commands.{Asks}
use Rattle.pos_tool.proofs.commands.choice.Goals as goal

pub returns-in-Ok-task_of : goal.returns-in-Ok-task_of
returns-in-Ok-task_of g c =
    let words = map g.S.AsStr.text c.args.words.now in
    let parse = c.in-Ok-try_get_matches_from in
    let same = c.in-Ok.ensures.0 in
    inl (
      accepted (app_of c.in-Ok.line) words same parse.ensures.kinds,
      subst (λ found. Asks found c.in-Ok-task_of.task)
          (met (app_of c.in-Ok.line) words same parse.matches parse.ensures.matches) c.in-Ok-task_of.ensures,
    )

pub returns-in-Err : goal.returns-in-Err
returns-in-Err g c = told (app_of c.in-Ok.line) (map g.S.AsStr.text c.args.words.now) c.in-Ok.ensures.0 c.in-Err.error
    c.task_of_error.result c.in-Err.ensures.kinds c.task_of_error.ensures
