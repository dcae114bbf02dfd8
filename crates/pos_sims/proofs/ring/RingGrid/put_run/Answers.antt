use Rattle.pos_sims.proofs.Common.{ap, arith, display_of, length, with_items_is, with_run_at, ◌≡◌}
use Rattle.pos_sims.proofs.RingLemmas.{run_turned}
use Rattle.pos_sims.proofs.RunLemmas.{run_count}
use Rattle.pos_sims.proofs.ring.RingGrid.put_run.Goals as goal

pub put_characters-requires : goal.put_characters-requires
put_characters-requires c =
    let was = c.args.self.now in
    grind (
      arith,
      run_turned was.rows was.columns was.first c.args.place.row c.args.place.column c.start.result
          c.in_ring-first.result c.args.attribute c.args.characters.now was.cells.items c.start.ensures.start,
    )

pub returns : goal.returns
returns c =
    let was = c.args.self.now in
    let same : c.len.result ≡ length was.cells.items = omega (arith, c.len.ensures, was.cells.ok.0) in
    let turned = run_turned was.rows was.columns was.first c.args.place.row c.args.place.column c.start.result
    c.in_ring-first.result c.args.attribute c.args.characters.now was.cells.items c.start.ensures.start
    (omega (arith, was.cells.ok.0, was.sized.count)) was.within c.requires.row c.requires.columns c.requires.some
    (rw same at c.in_ring-first.ensures.stands) in
    let put : c.put_characters.new.cells
    ≡ with_run_at c.in_ring-first.result c.args.attribute c.args.characters.now was.cells.items = grind arith in
    ap (display_of was.rows was.columns) (rw (
      with_items_is was.cells c.put_characters.new.cells (grind (arith, run_count, was.cells.ok.0)),
      put,
    ) (rw c.start.ensures.start at turned.1))
