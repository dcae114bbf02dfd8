use Rattle.pos_shell.proofs.XmlLemmas.{all_harmless}
use Rattle.pos_shell.proofs.xml.escapes_markup.Goals as goal

pub returns : goal.returns
returns c = all_harmless c.args.bytes.now 0
