-- What a source was taken from and what a sink was given, and what a read, a write and a flush do.
use Rattle.std.specs.Prelude.{◌≡◌, ℕ, zero, suc, ◌+◌, ◌<◌, ◌≤◌, List, ◌++◌, length, take, Option, Some, Result, Ok, Err}
use Rattle.pos_streams.specs.declared.source.ReadFault.{ReadFault}
use Rattle.pos_streams.specs.declared.sink.WriteFault.{WriteFault}

-- What was taken from a source: all bytes, how often its end was found, and how often a read failed. Of a source in
-- memory all bytes that it has are known too.
pub record Taken : Type 0 where
  pub bytes : List ℕ
  pub ends : ℕ
  pub faults : ℕ
  pub all : Option (List ℕ)

-- What a sink was given: all bytes, and how often a write or a flush failed.
pub record Given : Type 0 where
  pub bytes : List ℕ
  pub faults : ℕ

-- these bytes were taken, and the end and faults were met so often
abbrev pub taken_with : List ℕ → ℕ → ℕ → Option (List ℕ) → Taken
taken_with bytes ends faults all = record { bytes = bytes; ends = ends; faults = faults; all = all }

-- these bytes were given, and faults were met so often
abbrev pub given_with : List ℕ → ℕ → Given
given_with bytes faults = record { bytes = bytes; faults = faults }

-- after these bytes were taken
abbrev pub taken_after : Taken → List ℕ → Taken
taken_after old bytes = record old { bytes = old.bytes ++ bytes }

-- after these bytes were given
abbrev pub given_after : Given → List ℕ → Given
given_after old bytes = record old { bytes = old.bytes ++ bytes }

-- after the end was found
abbrev pub end_after : Taken → Taken
end_after old = record old { ends = old.ends + 1 }

-- after a read failed
abbrev pub read_fault_after : Taken → Taken
read_fault_after old = record old { faults = old.faults + 1 }

-- after a write or a flush failed
abbrev pub write_fault_after : Given → Given
write_fault_after old = record old { faults = old.faults + 1 }

-- all bytes were taken, if it is known which the source has
abbrev pub IsWhole : Taken → Type 0
IsWhole taken = (all : List ℕ) → taken.all ≡ Some all → taken.bytes ≡ all

-- a read took the bytes that it put at the front of the buffer; or it found the end; or it failed
abbrev pub TakesBytes : Taken → List ℕ → Result ℕ ReadFault → Taken → Type 0
TakesBytes old buffer (Ok zero) new = (new ≡ end_after old) × IsWhole old
TakesBytes old buffer (Ok (suc n)) new = (suc n ≤ length buffer) × (new ≡ taken_after old (take (suc n) buffer))
TakesBytes old buffer (Err fault) new = new ≡ read_fault_after old

-- a write gave a front of the bytes, one byte at least; or it failed
abbrev pub GivesBytes : Given → List ℕ → Result ℕ WriteFault → Given → Type 0
GivesBytes old bytes (Ok count) new = (0 < count) × (count ≤ length bytes) × (new ≡ given_after old (take count bytes))
GivesBytes old bytes (Err fault) new = new ≡ write_fault_after old

-- what a write gave isn't flushed yet; if it failed, nothing was given
abbrev pub HoldsBack : List ℕ → List ℕ → Result ℕ WriteFault → List ℕ → Type 0
HoldsBack old bytes (Ok count) new = new ≡ old ++ take count bytes
HoldsBack old bytes (Err fault) new = new ≡ old

-- a flush gave nothing; or it failed
abbrev pub Flushes : Given → Result (Unit {0}) WriteFault → Given → Type 0
Flushes old (Ok u) new = new ≡ old
Flushes old (Err fault) new = new ≡ write_fault_after old

-- these bytes were given, and nothing failed
abbrev pub Appends : Given → Given → List ℕ → Type 0
Appends old new bytes = new ≡ given_after old bytes

-- these bytes were given, and then a write or a flush failed
abbrev pub Fails : Given → Given → List ℕ → Type 0
Fails old new bytes = new ≡ write_fault_after (given_after old bytes)
