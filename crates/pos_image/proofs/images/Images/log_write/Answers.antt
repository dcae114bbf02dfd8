use Rattle.pos_image.proofs.Common.{IsWritable, KeepsImage, LeavesOnly, View, WritesOnly, arith, images_of, length}
use Rattle.pos_image.proofs.Common.{prepared_image, rules, span_of, start, ◌+◌}
use Rattle.pos_image.proofs.SpanLemmas.{WritesLog, writable, write_held, write_moments, writes_only, writes_span}
use Rattle.pos_image.proofs.images.Images.log_write.Given.{Over}
use Rattle.pos_image.proofs.images.Images.log_write.Goals.{After-write}
use Rattle.pos_image.proofs.images.Images.log_write.Goals as goal

module _ (g : Over) (c : After-write g) where
  abbrev images : View g.row.D.Denot
  images =
      let d = c.self.inside in
      images_of d.disk d.current.slot d.current.body.items d.current.sequence (prepared_image d.prepared)

  is_writable : IsWritable g.D.Disk images
  is_writable = rw c.self.view_is c.requires.writable

  -- the write began at its place in the slot
  wrote : g.D.Disk.honest c.self.inside.disk → WritesLog images (g.D.Disk.state c.self.inside.disk)
      (g.D.Disk.state c.write.new.self) c.args.at c.args.bytes.now c.write.result
  wrote honest = record {
    held = is_writable.held honest;
    only = λ f left. g.met.D.Disk.only_now c.self.inside.disk f honest left;
    inside = rw (← c.self.view_is) at c.requires.inside;
    writes = rw c.start.ensures at (c.write.ensures.writes honest);
  }

  -- a crash at any moment, whatever the write answers
  moments : g.D.Disk.honest c.args.self.now.disk
      → LeavesOnly (g.D.Disk.state c.args.self.now.disk) (g.D.Disk.state c.write.new.self)
      (KeepsImage c.args.self.now (span_of c.args.self.now (g.D.Disk.state c.write.new.self)))
  moments = rw (← c.self.view_is) (λ honest. write_moments (wrote honest))

  -- all else is as it was
  rest : g.D.Disk.honest c.args.self.now.disk → WritesOnly (start c.args.self.now.slot + c.args.at)
      (length c.args.bytes.now) (g.D.Disk.state c.args.self.now.disk) (g.D.Disk.state c.write.new.self)
  rest = rw (← c.self.view_is) (λ honest. writes_only (wrote honest).writes)

pub returns-in_err-write-clause-any_moment : goal.returns-in_err-write-clause-any_moment
returns-in_err-write-clause-any_moment g c = moments g (goal.at.returns-in_err-write-clause-any_moment g c).After-write

pub returns-clause-any_moment : goal.returns-clause-any_moment
returns-clause-any_moment g c = moments g (goal.at.returns-clause-any_moment g c).After-write

pub returns-in_err-write-clause-span : goal.returns-in_err-write-clause-span
returns-in_err-write-clause-span g c =
    let here = (goal.at.returns-in_err-write-clause-span g c).After-write in
    rw (← c.self.view_is) (λ honest. writes_span (wrote g here honest) _ (search rules))

pub returns-clause-span : goal.returns-clause-span
returns-clause-span g c =
    let here = (goal.at.returns-clause-span g c).After-write in
    rw (← c.self.view_is) (λ honest. writes_span (wrote g here honest) _
    (rw c.start.ensures at (c.in_ok-write.ensures.writes honest).written))

pub returns-clause-writable : goal.returns-clause-writable
returns-clause-writable g c =
    let here = (goal.at.returns-clause-writable g c).After-write in
    let was = is_writable g here in
    writable g.D.Disk _ (omega (arith, was.large, c.write.ensures.size)) was.counted (λ honest.
    let held = write_held (wrote g here (c.write.ensures.honest.1 honest)) in
    record { loose = held.loose; current = held.current; prepared = held.prepared })
