use Rattle.pos_sims.proofs.Common.{Follows, IsWithin, SameSize, length, take, text_from, ◌-◌, ◌≤◌}
use Rattle.pos_sims.proofs.text_layout.lay_text.Given as goal

abbrev pub invariant-loop-done : goal.invariant-loop-done
invariant-loop-done g l = record {
  follows : Follows l.style (g.W.Grid.shown l.fn.window).cells
      (text_from l.style.columns l.fn.start (take l.done l.bytes)) (g.W.Grid.shown l.window).cells l.place;
  size : SameSize (g.W.Grid.shown l.fn.window) (g.W.Grid.shown l.window);
  within : IsWithin l.style (g.W.Grid.shown l.window).cells l.place;
  done : l.done ≤ length l.bytes;
}

abbrev pub decreases-loop-done : goal.decreases-loop-done
decreases-loop-done g l = length l.bytes - l.done
