use Rattle.pos_sims.proofs.Common.{arith, length, rules, shown_on, with_items_is, ◌*◌, ◌∙◌, ◌≡◌}
use Rattle.pos_sims.specs.declared.ring.Ring.{Ring}
use Rattle.pos_sims.proofs.RingLemmas.{turned_count, turned_left, turned_right}
use Rattle.pos_sims.proofs.ScrollLemmas.{scrolls}
use Rattle.pos_sims.proofs.ring.RingScreen.scroll.Goals as goal

sized : (ring : Ring) → length ring.cells.items ≡ ring.rows * ring.columns
sized ring = omega (arith, ring.cells.ok.0, ring.sized.count)

shown_sized : (ring : Ring) → length (shown_on ring).cells ≡ ring.rows * ring.columns
shown_sized ring = turned_count _ ring.cells.items ∙ sized ring

pub returns-in-Up : goal.returns-in-Up
returns-in-Up c = rw c.in-Up.is (search (rules, scrolls, shown_sized))

pub returns-in-Down : goal.returns-in-Down
returns-in-Down c = rw c.in-Down.is (search (rules, scrolls, shown_sized))

pub returns-in-Left : goal.returns-in-Left
returns-in-Left c =
    let was = c.args.self.now in
    let moved = rw c.as_mut_slice.ensures.value at c.move_to_front.ensures in
    rw (c.in-Left.is, with_items_is was.cells c.move_to_front.new.cells (omega (arith, moved.count, was.cells.ok.0)))
    (turned_left was.rows was.columns was.first c.args.units _ _ was.within (sized was)
    (moved.count ∙ sized was) moved.moved)

pub returns-in-Right : goal.returns-in-Right
returns-in-Right c =
    let was = c.args.self.now in
    let moved = rw c.as_mut_slice-in-Right.ensures.value at c.move_to_end.ensures in
    rw (c.in-Right.is, with_items_is was.cells c.move_to_end.new.cells (omega (arith, moved.count, was.cells.ok.0)))
    (turned_right was.rows was.columns was.first c.args.units _ _ was.within (sized was)
    (moved.count ∙ sized was) moved.moved)
