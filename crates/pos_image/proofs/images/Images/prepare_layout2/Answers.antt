use Rattle.pos_image.proofs.Common.{KeepsImage, LeavesOnly, arith, inr, length, refl, span_of, started, ◌<◌}
use Rattle.pos_image.proofs.images.Images.prepare_layout2.Goals as goal

-- a body that is too long changes nothing
pub returns-then-len-longest-clause-prepares : goal.returns-then-len-longest-clause-prepares
returns-then-len-longest-clause-prepares g c =
    let images = c.args.self.now in
    let s = g.D.Disk.state images.disk in
    let any_moment : g.D.Disk.honest images.disk → LeavesOnly s s (KeepsImage images (span_of images s)) =
    λ honest. started s _ (λ f left. c.requires.ready.leaves honest f (g.met.D.Disk.only_now images.disk f honest left))
    in
    let long : 81907 < length c.args.body.items =
    omega (arith, c.if-len-longest.true, c.len.ensures, c.longest.ensures) in
    record {
      ready = tt;
      prepared = tt;
      log = λ honest. tt;
      gate = λ honest. tt;
      rest = λ honest. record { same_length = refl; elsewhere = λ i outside. refl };
      any_moment = any_moment;
      too_large = (λ is. long, λ is. refl);
      exhausted = (λ is. absurd cc, λ both. absurd (omega (arith, long, both.0)));
      unchanged = λ err. inr refl;
      failed = λ is. refl;
      device = λ honest is. absurd cc;
      counts = λ honest. inr refl;
      keeps = record { size = refl; honest = (λ h. h, λ h. h); later = λ h. omega arith; fixed = refl };
    }
