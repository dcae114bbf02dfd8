use Rattle.pos_report.proofs.GateLemmas.{wants}
use Rattle.pos_report.proofs.salvage.salvage_totals.Goals as goal

pub returns-in_default-clause-refused : goal.returns-in_default-clause-refused
returns-in_default-clause-refused c = wants c.args.bytes.now

pub returns-in_default-cut_line-clause-refused : goal.returns-in_default-cut_line-clause-refused
returns-in_default-cut_line-clause-refused c = wants c.args.bytes.now
