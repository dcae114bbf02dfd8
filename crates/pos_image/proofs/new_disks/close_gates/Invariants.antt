use Rattle.pos_image.proofs.Common.{KeepsRest, get_or, ℕ, ◌<◌, ◌↔◌, ◌≡◌}
use Rattle.pos_image.proofs.new_disks.close_gates.Given as goal

abbrev pub invariant-loop-at : goal.invariant-loop-at
invariant-loop-at g l = record {
  size : g.D.Disk.size l.disk ≡ g.D.Disk.size l.fn.disk;
  fixed : g.D.Disk.fixed l.disk ≡ g.D.Disk.fixed l.fn.disk;
  honest : g.D.Disk.honest l.fn.disk ↔ g.D.Disk.honest l.disk;
  closed : g.D.Disk.honest l.fn.disk → (k : ℕ) → k < l.at-index
      → get_or (g.D.Disk.state l.disk).reading (get_or l.at-items k 0) 0 ≡ 0;
  rest : g.D.Disk.honest l.fn.disk → KeepsRest (g.D.Disk.state l.fn.disk).reading (g.D.Disk.state l.disk).reading;
  counts : g.D.Disk.honest l.fn.disk → (g.D.Disk.state l.disk).failures ≡ (g.D.Disk.state l.fn.disk).failures;
}
