use Rattle.pos_profile.specs.Registries.{AreParked, devices_of}
use Rattle.pos_profile.proofs.slot.end_all.Given as goal

-- what is left is out of service
abbrev pub invariant-loop-entry : goal.invariant-loop-entry
invariant-loop-entry g l = AreParked (devices_of g.P.Peripheral l.entries.items)

abbrev pub decreases-loop-entry : goal.decreases-loop-entry
decreases-loop-entry g l = goal.left-loop-entry g l
