-- What the program reads and prints.
use Rattle.std.specs.Prelude.{◌≡◌, ◌++◌, ℕ, List, []}
use Rattle.pos_streams.specs.Streams.{Appends, Fails, Given, Taken}
use Rattle.pos_streams.specs.declared.sink.Sink.{Ghosts}
use Rattle.pos_streams.specs.declared.source.Source.{Ghosts as SourceGhosts}

-- How an output stands: what it was given, and what of it since it was last flushed.
pub record Output : Type 0 where
  pub given : Given
  pub unflushed : List ℕ

abbrev pub output_of : {W : Type 0} → Ghosts W → W → Output
output_of bound writer = record { given = bound.given writer; unflushed = bound.unflushed writer }

-- How an input and an output stand: what was taken from the one, and the other.
pub record Streams : Type 0 where
  pub taken : Taken
  pub output : Output

abbrev pub streams_of : {R W : Type 0} → SourceGhosts R → R → Ghosts W → W → Streams
streams_of source reader sink writer = record { taken = source.taken reader; output = output_of sink writer }

-- all of a text was given, and flushed
abbrev pub IsWritten : Output → Output → List ℕ → Type 0
IsWritten old new text = Appends old.given new.given text × (new.unflushed ≡ [])

-- a front of a text was given, and then a write or a flush failed
abbrev pub IsCutOff : Output → Output → List ℕ → Type 0
IsCutOff old new text = (front : List ℕ) × (back : List ℕ) × (text ≡ front ++ back) × Fails old.given new.given front
