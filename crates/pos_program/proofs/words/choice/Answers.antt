use Rattle.std.proofs.Common.{map, subst, sym}
use Rattle.pos_program.proofs.ParseLemmas.{accepted, chosen, command_known, met, refused, some_texts}
use Rattle.pos_program.specs.Choices.{Asks, IsKnown}
use Rattle.pos_program.proofs.words.choice.Goals as goal

pub task_of-requires : goal.task_of-requires
task_of-requires g c =
    let words = map g.S.AsStr.text c.args.words.now in
    let parse = c.in-Ok-try_get_matches_from in
    subst (λ found. IsKnown found) (sym (met words c.in-Ok.ensures.0 parse.matches parse.ensures.matches))
    (command_known words (accepted words c.in-Ok.ensures.0 parse.ensures.kinds))

pub returns-in-Ok-try_get_matches_from : goal.returns-in-Ok-try_get_matches_from
returns-in-Ok-try_get_matches_from g c =
    let words = map g.S.AsStr.text c.args.words.now in
    let parse = c.in-Ok-try_get_matches_from in
    chosen words c.task_of.result (accepted words c.in-Ok.ensures.0 parse.ensures.kinds)
    (subst (λ found. Asks found c.task_of.result)
    (met words c.in-Ok.ensures.0 parse.matches parse.ensures.matches) c.task_of.ensures)

pub returns-in-Err : goal.returns-in-Err
returns-in-Err g c = refused (map g.S.AsStr.text c.args.words.now) c.in-Ok.ensures.0 c.in-Err.error
    c.fault_of_error.result (some_texts g.S.AsStr.text c.args.words.now c.is_empty.ensures c.if-is_empty.false)
    c.in-Err.ensures.kinds c.fault_of_error.ensures
