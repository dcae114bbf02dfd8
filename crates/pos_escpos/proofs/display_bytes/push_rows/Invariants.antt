use Rattle.std.proofs.Common.{◌≡◌, ◌++◌, ◌+◌, ◌-◌, ◌*◌, length}
use Rattle.pos_escpos.specs.DisplayBytes.{rows_bytes}
use Rattle.pos_escpos.proofs.display_bytes.push_rows.Given as goal

-- what is written and the rows that are left are the whole
abbrev pub invariant-loop-row : goal.invariant-loop-row
invariant-loop-row l = record {
  written : l.out.items ++ rows_bytes l.protocol l.columns (l.row + 1) (l.rows - l.row) l.old l.new
      ≡ l.fn.out.items ++ rows_bytes l.protocol l.columns 1 l.rows l.before l.after;
  old : length l.old ≡ (l.rows - l.row) * l.columns;
  new : length l.new ≡ (l.rows - l.row) * l.columns;
}
