use Rattle.std.proofs.Common.{append-nil, sym, ap, ◌++◌, ◌∙◌}
use Rattle.pos_tool.proofs.NameLemmas.{without_end}
use Rattle.pos_tool.specs.Texts.{texts}
use Rattle.pos_tool.proofs.names.put_script.Goals as goal

pub returns-in-None : goal.returns-in-None
returns-in-None c =
    sym (ap (λ script. texts c.args.scripts.now.items ++ script) (without_end c.args.name.now c.in-None.ensures.cases)
    ∙ append-nil _)
