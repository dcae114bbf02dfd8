use Rattle.std.proofs.Common.{Ok}
use Rattle.pos_tool.proofs.copies.take_snapshot.Goals as goal

pub returns : goal.returns
returns g c = (
  Ok c.in_ok-file.file,
  c.in_ok-file.ensures.opens,
  (c.in_ok-file.ensures.new, (c.read_steady-bytes.new.file, c.read_steady-bytes.ensures, c.close.ensures)),
)
