-- The built-in profile (docs/reference/profile.md, "The built-in profile"): a device of each category, and a spare.
use Rattle.std.specs.Prelude.{List, [], ◌∷◌, map}
use Rattle.pos_profile.specs.declared.entry.Entry.{Entry}
use Rattle.pos_profile.specs.Entries.{Contents, entry_with, no_numbers, plain}
use Rattle.pos_profile.specs.Kinds.{all_categories, built_entry, spare_category}

-- a device of each category
abbrev pub built_devices : List Entry
built_devices = map built_entry all_categories

-- a spare
abbrev pub built_spares : List Entry
built_spares = entry_with spare_category [] no_numbers plain ∷ []

abbrev pub built : Contents
built = record { devices = built_devices; spares = built_spares }
