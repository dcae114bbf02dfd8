-- What a till's host has to do to its file, and what it is told of it (abi/README.md, "Totals in a file").
use Rattle.std.specs.Prelude.{◌≡◌, ◌≢◌, ◌≤◌, ◌<◌, ◌⊎◌, ◌++◌, ◌∷◌, [], ℕ, Bool, List, Option, Some, None, Ok, Err, true}
use Rattle.std.specs.Prelude.{false, length, drop}
use Rattle.std.specs.Bool.{MatchBool}
use Rattle.pos_disk.specs.Memory.{Memory, fresh, synced, written}
use Rattle.pos_disk.specs.State.{Answer}
use Rattle.kijolvar.specs.declared.errands.Errand.{Errand}
use Rattle.kijolvar.specs.declared.errands.Errand.TheVariants.{Write, Sync}
use Rattle.kijolvar.specs.Codes.{ok, short, sync, write}

-- What a host has to do: the errands, the oldest first; whether one was lost, because there was no memory for it; and
-- its file, as a disk in which all was done that isn't among the errands any more.
pub record HostWork : Type 0 where
  pub errands : List Errand
  pub lost : Bool
  pub file : Memory

-- nothing has to be done, and the file has these bytes, all of them synced
abbrev pub no_work : List ℕ → HostWork
no_work bytes = record { errands = []; lost = false; file = fresh bytes }

-- the errand writes these bytes at this place
abbrev pub IsWrite : (at : ℕ) (bytes : List ℕ) → Errand → Type 0
IsWrite at bytes (Write place written) = (place ≡ at) × (written.items ≡ bytes)
IsWrite at bytes Sync = ⊥

-- the errand is a sync
abbrev pub IsSync : Errand → Type 0
IsSync (Write place written) = ⊥
IsSync Sync = Unit {0}

-- a file after an errand was done in it
abbrev pub file_after : Errand → Memory → Memory
file_after (Write at bytes) file = written at bytes.items file
file_after Sync file = synced file

-- a file after errands were done in it, one after another
abbrev pub file_after_all : List Errand → Memory → Memory
file_after_all [] file = file
file_after_all (errand ∷ errands) file = file_after_all errands (file_after errand file)

-- exactly one errand more is there, after the others; or it is lost, and so is each later one
abbrev pub Adds : (Errand → Type 0) → HostWork → HostWork → Answer → Type 0
Adds Is old new (Ok done) =
    (old.lost ≡ false) × ((one : Errand) × Is one × (new ≡ record old { errands = old.errands ++ one ∷ [] }))
Adds Is old new (Err fault) = new ≡ record old { lost = true }

-- the oldest errand is done, if there is one
abbrev pub Does : HostWork → HostWork → Option Errand → Type 0
Does old new (Some one) =
    (old.errands ≡ one ∷ new.errands) × (new ≡ record old { errands = new.errands; file = file_after one old.file })
Does old new None = (old.errands ≡ []) × (new ≡ old)

-- this is the oldest errand, if there is one
abbrev pub IsOldest : List Errand → Option Errand → Type 0
IsOldest [] found = found ≡ None
IsOldest (errand ∷ errands) found = found ≡ Some errand

-- The bytes of an errand are written with their place, if there is room for them, else only how many they are. A sync
-- has nothing to tell but itself.
abbrev pub WritesErrand : Errand → (at_before at : ℕ) (before after : List ℕ) (needed_before needed code : ℕ) → Type 0
WritesErrand (Write place bytes) at_before at before after needed_before needed code = (needed ≡ length bytes.items)
    × (((length bytes.items ≤ length before) × (code ≡ write) × (at ≡ place)
    × (after ≡ bytes.items ++ drop (length bytes.items) before))
    ⊎ ((length before < length bytes.items) × (code ≡ short) × (at ≡ at_before) × (after ≡ before)))
WritesErrand Sync at_before at before after needed_before needed code =
    (code ≡ sync) × (at ≡ at_before) × (after ≡ before) × (needed ≡ needed_before)

-- Of these errands the oldest is told, if there is one. It counts as told unless there was too little room.
abbrev pub WritesOldest : List Errand → (at_before at : ℕ) (before after : List ℕ) (needed_before needed code : ℕ)
    (told : Bool) → Type 0
WritesOldest [] at_before at before after needed_before needed code told =
    (code ≡ ok) × (at ≡ at_before) × (after ≡ before) × (needed ≡ needed_before) × (told ≡ false)
WritesOldest (errand ∷ errands) at_before at before after needed_before needed code told =
    WritesErrand errand at_before at before after needed_before needed code
    × MatchBool told (code ≢ short) (code ≡ short)
