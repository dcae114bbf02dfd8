use Rattle.pos_image.proofs.Common.{arith, refl}
use Rattle.pos_image.proofs.ChangeLemmas.{ready}
use Rattle.pos_image.proofs.CurrentImageLemmas.{current_stands}
use Rattle.pos_image.proofs.RefusalLemmas.{short_stands}
use Rattle.pos_image.proofs.images.Images.open.Goals as goal

pub returns-in-Ok-clause-found : goal.returns-in-Ok-clause-found
returns-in-Ok-clause-found g c honest = current_stands (c.in-Ok.ensures.found honest)

pub returns-in-Ok-clause-ready : goal.returns-in-Ok-clause-ready
returns-in-Ok-clause-ready g c = (
  ready g.D.Disk _ (omega (arith, c.find.ensures.keeps.size)) (omega arith) (λ honest.
      let was = c.find.ensures.keeps.honest.1 honest in
      record {
        at_rest = c.in-Ok.ensures.at_rest was;
        current = rw (c.find.ensures.watches was).reading (c.in-Ok.ensures.found was);
        prepared = tt;
      }),
  refl,
)

pub returns-then-len-lt-SIZE-clause-unformatted : goal.returns-then-len-lt-SIZE-clause-unformatted
returns-then-len-lt-SIZE-clause-unformatted g c honest _ =
    let whole = g.met.D.Disk.whole c.args.disk honest in
    short_stands (g.D.Disk.state c.args.disk).reading (omega (arith, whole, c.len.ensures, c.if-len-lt-SIZE.true))
