use Rattle.pos_counter.proofs.Common.{false, ℕ, ◌<◌, ◌≡◌}
use Rattle.pos_counter.specs.Hosts.{hosts_of, pends_at}
use Rattle.pos_counter.specs.KeptDevices.{slots_in}
use Rattle.pos_counter.proofs.devices.Devices.find_pending.Given as goal

-- no device before this one has a pending order
abbrev pub invariant-loop-place : goal.invariant-loop-place
invariant-loop-place g l = (lower : ℕ) → lower < l.place
    → pends_at (hosts_of g.P.Awaits.course (slots_in l.fn.self)) lower ≡ false
