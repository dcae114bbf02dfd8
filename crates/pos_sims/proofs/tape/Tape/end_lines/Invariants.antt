use Rattle.pos_sims.proofs.Common.{Adds, replicate, steps, work_of, ◌-◌, ◌≡◌}
use Rattle.pos_service.specs.declared.receipt_text.Piece.TheVariants as piece
use Rattle.pos_sims.proofs.tape.Tape.end_lines.Given as goal

abbrev pub invariant-loop : goal.invariant-loop
invariant-loop l = record {
  work : steps l.fn.self.chars (work_of l.self) (replicate (l.count - l.counter) piece.LineEnd)
      ≡ steps l.fn.self.chars (work_of l.fn.self) (replicate l.count piece.LineEnd);
  adds : Adds l.fn.self l.self;
}
