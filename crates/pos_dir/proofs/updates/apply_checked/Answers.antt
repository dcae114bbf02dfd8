use Rattle.pos_dir.proofs.ChangeLemmas.{all_changed}
use Rattle.pos_dir.proofs.updates.apply_checked.Goals as goal

pub returns-clause-directory : goal.returns-clause-directory
returns-clause-directory c = all_changed c.args.files.now.items c.args.changes.now c.requires.directory
    c.requires.group.each (rw (← c.reserve.ensures.items) c.apply_all.ensures)
