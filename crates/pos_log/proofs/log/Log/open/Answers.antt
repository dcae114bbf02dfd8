use Rattle.pos_log.proofs.Common.{ap, arith, layout_of, log_of, log_place, log_size, places, span_length, ◌-◌, ◌≡◌}
use Rattle.pos_log.proofs.ReadLemmas.{whole_read}
use Rattle.pos_log.proofs.log.Log.open.Given.{Over}
use Rattle.pos_log.proofs.log.Log.open.Goals.{After-read_records}
use Rattle.pos_log.proofs.log.Log.open.Goals as goal

module _ (g : Over) (c : After-read_records g) where
  from_is : c.log_span-first.result.0 ≡ log_place (layout_of c.args.images.slot)
  from_is = ap (λ s. s.0) c.log_span-first.ensures

  length_is : c.in-Ok.buffer.len ≡ log_size (layout_of c.args.images.slot)
  length_is =
      let to = ap (λ s. s.1) c.log_span-first.ensures in
      let here = places c.args.images.slot in
      omega (arith, c.in-Ok.ensures.len, from_is)

  -- what was read is the span
  read_is : g.D.Disk.honest c.args.images.disk → c.deref.result.now ≡ log_of (g.D.Disk.state c.args.images.disk).reading
  read_is honest =
      let at : c.log_span-first.result.0 - log_place (layout_of c.args.images.slot) ≡ 0 = omega (arith, from_is) in
      whole_read c.in-Ok.buffer.items length_is (omega (
        arith,
        c.log_read.auto.out,
        c.as_mut_slice.ensures.len,
        length_is,
      )) (span_length (c.requires.sound honest).current) c.deref.ensures.value
      (rw at at (c.in-Ok-log_read.ensures.bytes honest))

pub returns-in-Err-clause-damaged : goal.returns-in-Err-clause-damaged
returns-in-Err-clause-damaged g c honest is some =
    let here = (goal.at.returns-in-Err-clause-damaged g c).After-read_records in
    c.in-Err.ensures.damaged is (rw (read_is g here honest) some)

pub returns-in-Ok-read_records-clause-records : goal.returns-in-Ok-read_records-clause-records
returns-in-Ok-read_records-clause-records g c honest =
    let here = (goal.at.returns-in-Ok-read_records-clause-records g c).After-read_records in
    rw (read_is g here honest) at c.in-Ok-read_records.ensures.held
