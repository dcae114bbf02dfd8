use Rattle.std.proofs.Common.{◌∙◌}
use Rattle.pos_run.proofs.NameLemmas.{lookup_named}
use Rattle.pos_run.proofs.names.Names.find.Goals as goal

pub returns : goal.returns
returns c = c.find_name.ensures ∙ lookup_named (λ k. k.items) c.args.self.now.numbers.entries c.args.name.now
