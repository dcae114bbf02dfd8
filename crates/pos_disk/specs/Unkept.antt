-- What is known of a disk that lies outside the program (docs/guide/power-cuts.md, "Premises on a real disk").
use Rattle.std.specs.Prelude.{◌≡◌, Bool, true, false, [], Ok, Err}
use Rattle.pos_disk.specs.State.{Answer, DiskState}

-- any state, for a disk that is never honest
abbrev pub unknown_state : DiskState
unknown_state = record { reading = []; loose = λ _. ⊥; moment = 0; left_since = λ _ _. ⊥; failures = 0 }

-- the answer is a fault
abbrev pub is_fault : Answer → Bool
is_fault (Ok done) = false
is_fault (Err fault) = true

-- a disk that has failed for good answers a fault
abbrev pub Fails : Bool → Answer → Type 0
Fails has_failed answer = has_failed ≡ true → is_fault answer ≡ true
