use Rattle.std.proofs.Common.{length, ◌≡◌, ◌≤◌}
use Rattle.pos_service.specs.Receipts.{pieces}
use Rattle.pos_sims.specs.PaperNeeds.{need, needs}
use Rattle.pos_sims.proofs.paper_needs.text_fits.Given as goal

abbrev pub invariant-loop-rest : goal.invariant-loop-rest
invariant-loop-rest l = record {
  same : needs l.chars l.n (pieces l.rest) ≡ needs l.chars (need l.begun 0) (pieces l.bytes);
  lines : l.n.lines ≤ l.limit;
  begun : l.n.begun ≤ l.chars;
}

abbrev pub decreases-loop-rest : goal.decreases-loop-rest
decreases-loop-rest l = length l.rest
