use Rattle.std.proofs.Common.{refl}
use Rattle.pos_report.proofs.codes.standard_codes.Goals as goal

pub returns : goal.returns
returns c = refl
