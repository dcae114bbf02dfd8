-- The names of a script's controls (docs/reference/console.md, "Lines").
use Rattle.std.specs.Prelude.{ℕ, List, Option, bytes_eq, map}
use Rattle.std.specs.Map.{lookup}
use Rattle.indexmap.specs.IndexMap.{spare}
use Rattle.pos_run.specs.declared.names.Names.{Names}

-- the controls of a script by their names, in the order in which they were made
abbrev pub ControlNames : Type 0
ControlNames = List (List ℕ × ℕ)

-- the number of the control with a name
abbrev pub number_named : ControlNames → List ℕ → Option ℕ
number_named names name = lookup (bytes_eq name) names

-- the controls with their numbers, in the order in which they were made
abbrev pub names_of : Names → ControlNames
names_of names = map (λ entry. (entry.0.items, entry.1)) names.numbers.entries

-- how many more names there is room for
abbrev pub room_of : Names → ℕ
room_of names = spare names.numbers
