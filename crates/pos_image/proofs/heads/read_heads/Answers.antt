use Rattle.pos_image.proofs.Common.{Fourth, Third, arith, length, refl, ◌∙◌, ◌≡◌, ◌≤◌}
use Rattle.pos_image.proofs.CurrentImageLemmas.{first_here, second_layout}
use Rattle.pos_image.proofs.heads.read_heads.Given.{Over}
use Rattle.pos_image.proofs.heads.read_heads.Goals.{After-read_head-2, then-third-via-else-third+then-fourth}
use Rattle.pos_image.proofs.heads.read_heads.Goals.{then-third-via-then-third}
use Rattle.pos_image.proofs.heads.read_heads.Goals as goal

module _ (g : Over) (c : After-read_head-2 g) (honest : g.D.Disk.honest c.args.disk.now) where
  whole : 327680 ≤ length (g.D.Disk.state c.args.disk.now).reading
  whole = omega (arith, g.met.D.Disk.whole c.args.disk.now honest, c.requires.large)

  honest1 : g.D.Disk.honest c.read_head.new.disk
  honest1 = c.read_head.ensures.keeps.honest.0 honest

  same1 : (g.D.Disk.state c.read_head.new.disk).reading ≡ (g.D.Disk.state c.args.disk.now).reading
  same1 = (c.read_head.ensures.watches honest).reading

pub returns-then-third-clause-heads : goal.returns-then-third-clause-heads
returns-then-third-clause-heads g c honest =
    let here = (goal.at.returns-then-third-clause-heads g c).After-read_head-2 in
    let third = c.in_ok-third.ensures.head honest in
    let fourth = rw (same1 g here honest) at (c.in_ok-fourth.ensures.head (honest1 g here honest)) in
    record {
      whole = whole g here honest;
      layout_is = elim c.then-third.branch [
        | then-third-via-then-third w ↦ second_layout _ Third refl (third.gate ∙ w.if-third.true)
        | then-third-via-else-third+then-fourth w ↦ second_layout _ Fourth refl (fourth.gate ∙ w.if-fourth.true)
      ];
      at_first = third;
      at_second = fourth;
    }

pub returns-clause-heads : goal.returns-clause-heads
returns-clause-heads g c honest =
    let here = (goal.at.returns-clause-heads g c).After-read_head-2 in
    let third = c.in_ok-third.ensures.head honest in
    let fourth = rw (same1 g here honest) at (c.in_ok-fourth.ensures.head (honest1 g here honest)) in
    let honest2 = c.read_head-2.ensures.keeps.honest.0 (honest1 g here honest) in
    let same2 = (c.read_head-2.ensures.watches (honest1 g here honest)).reading ∙ same1 g here honest in
    let same3 = (c.read_head-3.ensures.watches honest2).reading ∙ same2 in
    record {
      whole = whole g here honest;
      layout_is = first_here _ (third.gate ∙ c.if-third.false) (fourth.gate ∙ c.if-fourth.false);
      at_first = rw same2 at (c.in_ok-first.ensures.head honest2);
      at_second = rw same3 at (c.in_ok-second.ensures.head (c.read_head-3.ensures.keeps.honest.0 honest2));
    }
