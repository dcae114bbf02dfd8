-- What changes take of memory: a new file, or a new name.
use Rattle.std.specs.Prelude.{◌≡◌, List, [], ◌∷◌, replicate, Option, Some, None}
use Rattle.pos_dir.specs.declared.change.Change.{Change}
use Rattle.pos_dir.specs.declared.change.Change.TheVariants.{Create, Rename}
use Rattle.pos_dir.specs.declared.supplies.Supply.{Supply}
use Rattle.pos_dir.specs.declared.supplies.Supply.TheVariants.{NewFile, NewName}

-- what a change takes: the file of zero bytes that it adds, or the name that it gives
abbrev pub supplies_of : Change → List Supply
supplies_of (Create name size) = NewFile (record { name = name; bytes = replicate size 0 }) ∷ []
supplies_of (Rename index name) = NewName name ∷ []
supplies_of _ = []

-- it is all that a change takes
abbrev pub IsSupplied : Change → Option Supply → Type 0
IsSupplied change None = supplies_of change ≡ []
IsSupplied change (Some supply) = supplies_of change ≡ supply ∷ []
