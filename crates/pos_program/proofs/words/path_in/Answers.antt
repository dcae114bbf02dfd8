use Rattle.clap.specs.Words.{found_of}
use Rattle.pos_program.proofs.ParseLemmas.{no_path, path_there}
use Rattle.pos_program.proofs.words.path_in.Goals as goal

pub returns-in-Some : goal.returns-in-Some
returns-in-Some c = path_there (found_of c.args.found.now) c.args.option.now c.in-Some.path.now c.in-Some.ensures

pub returns-in-None : goal.returns-in-None
returns-in-None c = no_path (found_of c.args.found.now) c.args.option.now c.in-None.ensures
