use Rattle.pos_program.proofs.MirroredLemmas.{cut_left, is_mirrored}
use Rattle.pos_program.proofs.totals_disk.file_is_mirrored.Goals as goal

pub returns-clause-file : goal.returns-clause-file
returns-clause-file g c =
    let is = c.is_mirror.ensures.mirror in
    is_mirrored g.F.BlockFile.calls _ (λ old new at was out answer own. own) (λ old new at bytes answer own. own)
    (λ old new answer own. own) is.history.first c.args.mirror.now is.history.makes

pub returns-clause-cut : goal.returns-clause-cut
returns-clause-cut g c = λ is bytes cut. cut_left is bytes cut
