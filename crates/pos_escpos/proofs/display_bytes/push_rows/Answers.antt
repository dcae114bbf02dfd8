use Rattle.std.proofs.Common.{arith, ◌-◌, ◌+◌, ◌≡◌, ◌∙◌, suc}
use Rattle.pos_escpos.proofs.DisplayLemmas.{left_length, row_written}
use Rattle.pos_escpos.proofs.display_bytes.push_rows.Goals as goal

pub loop-row-preserved : goal.loop-row-preserved
loop-row-preserved c =
    let columns = c.args.columns in
    let rows = c.args.rows in
    let row = c.loop-row.row in
    let before = c.split_at.ensures in
    let after = c.split_at-in-loop-row.ensures in
    let more : rows - row ≡ suc (rows - (row + 1)) = omega arith in
    record {
      written = rw (before.back, after.back)
          (row_written c.args.protocol columns (row + 1) c.loop-row.old.now c.loop-row.new.now c.loop-row.out.items more
          (rw (before.front, after.front) at c.in_ok-push_row.ensures) c.loop-row.invariant.written);
      old = left_length _ columns more (before.back_len ∙ c.loop-row.invariant.old);
      new = left_length _ columns more (after.back_len ∙ c.loop-row.invariant.new);
    }
