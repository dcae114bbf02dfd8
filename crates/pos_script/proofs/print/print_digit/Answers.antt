use Rattle.std.proofs.lemmas.Fmt.{decimal_digit}
use Rattle.pos_script.proofs.print.print_digit.Goals as goal

pub returns : goal.returns
returns g c = rw (decimal_digit c.args.number c.requires) c.write_bytes.ensures
