use Rattle.std.proofs.Common.{length, ◌≤◌}
use Rattle.pos_image.specs.Layout.{disk_size}
use Rattle.pos_report.proofs.OpenGateLemmas.{open_gates}
use Rattle.pos_report.specs.Salvage.{IsClosed}
use Rattle.pos_report.proofs.salvage.close_gates.Given as goal

abbrev pub invariant-loop : goal.invariant-loop
invariant-loop l = record {
  closed : IsClosed l.initial.copy.items l.initial.lost.items l.copy.items l.lost.items;
  whole : disk_size ≤ length l.copy.items;
}

abbrev pub decreases-loop : goal.decreases-loop
decreases-loop l = open_gates l.copy.items
