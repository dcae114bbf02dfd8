use Rattle.pos_sims.proofs.Common.{blank, get_or, if◌then◌else◌, length, nat_le, ℕ, ◌%◌, ◌-◌, ◌<◌, ◌≡◌, ◌≤◌}
use Rattle.pos_sims.proofs.scroll.move_to_end.Given as goal

abbrev pub invariant-loop-left : goal.invariant-loop-left
invariant-loop-left l = record {
  within : l.left ≤ length l.fn.cells;
  moved : (k : ℕ) → l.left ≤ k → k < length l.fn.cells → get_or l.cells k blank
      ≡ (if nat_le l.places (k % l.width) then get_or l.fn.cells (k - l.places) blank else blank);
  before : (k : ℕ) → k < l.left → get_or l.cells k blank ≡ get_or l.fn.cells k blank;
}

abbrev pub decreases-loop-left : goal.decreases-loop-left
decreases-loop-left l = l.left
