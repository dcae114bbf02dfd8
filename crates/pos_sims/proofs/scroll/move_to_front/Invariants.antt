use Rattle.pos_sims.proofs.Common.{blank, get_or, if◌then◌else◌, nat_lt, ℕ, ◌%◌, ◌+◌, ◌<◌, ◌≡◌, ◌≤◌}
use Rattle.pos_sims.proofs.scroll.move_to_front.Given as goal

abbrev pub invariant-loop-i : goal.invariant-loop-i
invariant-loop-i l = record {
  moved : (k : ℕ) → k < l.i → get_or l.cells k blank
      ≡ (if nat_lt (k % l.width + l.places) l.width then get_or l.fn.cells (k + l.places) blank else blank);
  left : (k : ℕ) → l.i ≤ k → get_or l.cells k blank ≡ get_or l.fn.cells k blank;
}
