use Rattle.pos_counter.proofs.Common.{◌++◌, All, HandsOut, IsCounterSound, IsRun, List, OffersInService, length}
use Rattle.pos_counter.proofs.Common.{reverse, steps_of, vec_capacity, ℕ, ◌≡◌, ◌≤◌}
use Rattle.pos_service.specs.declared.request.Request.{Request}
use Rattle.pos_counter.proofs.counter.Counter.perform.Given as goal

-- the requests that were carried out are a run, those that wait are the others, and there is room for their responses
abbrev pub invariant-loop-request : goal.invariant-loop-request
invariant-loop-request g l = (done : List (Request (Unit {0}) ℕ g.row.P.Denot)) × record {
  all : l.fn.requests.items ≡ done ++ reverse l.waiting.items;
  run : IsRun g.D.Disk g.P.Peripheral l.fn.self (steps_of g.P.Peripheral done l.responses.items) l.self;
  whole : length l.responses.items ≡ length done;
  in_service : All (OffersInService g.P.Peripheral) (reverse l.waiting.items);
  handed_out : All (HandsOut g.P.Peripheral) l.responses.items;
  room : length l.fn.requests.items ≤ vec_capacity l.responses;
  sound : IsCounterSound g.P.Peripheral l.self;
}

abbrev pub decreases-loop-request : goal.decreases-loop-request
decreases-loop-request g l = goal.left-loop-request g l
