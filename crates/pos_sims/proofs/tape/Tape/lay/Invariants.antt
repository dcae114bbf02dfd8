use Rattle.pos_sims.proofs.Common.{Adds, length, pieces, steps, work_of, ◌≡◌}
use Rattle.pos_sims.proofs.tape.Tape.lay.Given as goal

abbrev pub invariant-loop-rest : goal.invariant-loop-rest
invariant-loop-rest l = record {
  work : steps l.fn.self.chars (work_of l.self) (pieces l.rest)
      ≡ steps l.fn.self.chars (work_of l.fn.self) (pieces l.bytes);
  adds : Adds l.fn.self l.self;
}

abbrev pub decreases-loop-rest : goal.decreases-loop-rest
decreases-loop-rest l = length l.rest
