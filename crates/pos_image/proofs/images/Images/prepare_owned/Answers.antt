use Rattle.pos_image.proofs.Common.{KeepsImage, LeavesOnly, rules, span_of, started}
use Rattle.pos_image.proofs.images.Images.prepare_owned.Goals as goal

pub returns-in_err-check-clause-prepares : goal.returns-in_err-check-clause-prepares
returns-in_err-check-clause-prepares g c =
    let images = c.args.self.now in
    let s = g.D.Disk.state images.disk in
    let any_moment : g.D.Disk.honest images.disk → LeavesOnly s s (KeepsImage images (span_of images s)) =
    λ honest. started s _ (λ f left. c.requires.leaves honest f (g.met.D.Disk.only_now images.disk f honest left)) in
    search rules
