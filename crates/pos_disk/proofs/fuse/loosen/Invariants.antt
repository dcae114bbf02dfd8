use Rattle.pos_disk.proofs.Common.{Loosens, ◌-◌, ◌↔◌, ◌≡◌, ◌≤◌}
use Rattle.pos_disk.proofs.fuse.loosen.Given as goal

abbrev pub invariant-loop-place : goal.invariant-loop-place
invariant-loop-place g l = record {
  from : l.from ≤ l.place;
  size : g.D.Disk.size l.disk ≡ g.D.Disk.size l.initial.disk;
  fixed : g.D.Disk.fixed l.disk ≡ g.D.Disk.fixed l.initial.disk;
  honest : g.D.Disk.honest l.initial.disk ↔ g.D.Disk.honest l.disk;
  loosens : g.D.Disk.honest l.initial.disk
      → Loosens (g.D.Disk.state l.initial.disk) (g.D.Disk.state l.disk) l.from (l.place - l.from);
}
