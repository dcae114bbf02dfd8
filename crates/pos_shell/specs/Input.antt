-- What taking all that an input has left comes to.
use Rattle.std.specs.Prelude.{◌≡◌, ◌⊎◌, ◌≤◌, ℕ, List, Result, Ok, Err, length}
use Rattle.pos_streams.specs.Streams.{IsWhole, Taken, end_after, read_fault_after, taken_after}
use Rattle.pos_run.specs.Streams.{most_reads}
use Rattle.pos_shell.specs.declared.runs.RunFault.{RunFault}
use Rattle.pos_shell.specs.declared.runs.RunFault.TheVariants as run
use Rattle.pos_shell.specs.declared.scripts.ScriptsFault.TheVariants.{NoMemory}

-- a text was taken, up to the end of what is there; or a read failed behind some of it, or there would be too many; or
-- there was no memory for it
abbrev pub TakesRest : Taken → Taken → Result (List ℕ) RunFault → Type 0
TakesRest old new (Ok text) = (new ≡ end_after (taken_after old text)) × IsWhole (taken_after old text)
TakesRest old new (Err run.Input) = (text : List ℕ) × ((new ≡ read_fault_after (taken_after old text))
    ⊎ ((new ≡ taken_after old text) × (most_reads ≤ length text)))
TakesRest old new (Err (run.Stopped NoMemory)) = (text : List ℕ) × (new ≡ taken_after old text)
TakesRest old new (Err other) = ⊥
