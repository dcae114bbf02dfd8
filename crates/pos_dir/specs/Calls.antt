-- What the calls on directories and groups answer.
use Rattle.std.specs.Prelude.{◌≡◌, ℕ, List, ◌∷◌, [], ◌++◌, Result, Ok, Err, Some, None, IsSome}
use Rattle.pos_dir.specs.declared.file.File.{File}
use Rattle.pos_dir.specs.declared.file.Limits.{Limits}
use Rattle.pos_dir.specs.declared.change.Change.{Change}
use Rattle.pos_dir.specs.declared.fault.DirectoryFault.{DirectoryFault}
use Rattle.pos_dir.specs.declared.fault.DirectoryFault.TheVariants.{NoMemory, Malformed}
use Rattle.pos_dir.specs.Files.{DirectoryView, IsDirectory}
use Rattle.pos_dir.specs.Changes.{after, fault_of, refusal_of, IsGroup}
use Rattle.pos_dir.specs.Spelling.{spelling, group_spelling}

-- A group that takes a change has it at its end; else it is as it was, and the change is given back.
abbrev pub Pushes : List Change → Change → Result (Unit {0}) (DirectoryFault × Change) → List Change → Type 0
Pushes old change (Ok _) new = (refusal_of old change ≡ None) × (new ≡ old ++ change ∷ [])
Pushes old change (Err (NoMemory, back)) new = (refusal_of old change ≡ None) × (new ≡ old) × (back ≡ change)
Pushes old change (Err (fault, back)) new = (refusal_of old change ≡ Some fault) × (new ≡ old) × (back ≡ change)

-- Applying a group makes the files after it, or is refused with the fault of its first change that isn't applicable.
-- Memory is wanted of an applicable group alone. A refusal changes nothing.
abbrev pub Applies : {X : Type 0} → DirectoryView → List Change → Result X DirectoryFault → DirectoryView → Type 0
Applies old changes (Ok _) new = after old.limits old.files changes ≡ Some new.files
Applies old changes (Err NoMemory) new = IsSome (after old.limits old.files changes) × (new ≡ old)
Applies old changes (Err fault) new = (fault_of old.limits old.files changes ≡ Some fault) × (new ≡ old)

-- the bytes spell some directory
abbrev pub IsBody : Limits → List ℕ → Type 0
IsBody limits bytes = (files : List File) × IsDirectory limits files × (bytes ≡ spelling files)

-- the bytes spell some group
abbrev pub IsGroupText : List ℕ → Type 0
IsGroupText bytes = (changes : List Change) × IsGroup changes × (bytes ≡ group_spelling changes)

-- Bytes are read as the directory that they spell; they are malformed exactly where they spell none.
abbrev pub Decodes : Limits → List ℕ → Result DirectoryView DirectoryFault → Type 0
Decodes limits bytes (Ok made) =
    (made.limits ≡ limits) × IsDirectory limits made.files × (bytes ≡ spelling made.files)
Decodes limits bytes (Err NoMemory) = IsBody limits bytes
Decodes limits bytes (Err Malformed) = ¬ (IsBody limits bytes)
Decodes limits bytes (Err fault) = ⊥

-- Bytes are read as the group that they spell; they are malformed exactly where they spell none.
abbrev pub DecodesGroup : List ℕ → Result (List Change) DirectoryFault → Type 0
DecodesGroup bytes (Ok changes) = IsGroup changes × (bytes ≡ group_spelling changes)
DecodesGroup bytes (Err NoMemory) = IsGroupText bytes
DecodesGroup bytes (Err Malformed) = ¬ (IsGroupText bytes)
DecodesGroup bytes (Err fault) = ⊥
