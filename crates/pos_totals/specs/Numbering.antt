-- What a change does to the handles, by the change of the directory that it is.
use Rattle.std.specs.Prelude.{ℕ, ◌+◌, ◌<◌, ◌≤◌, pos, ◌≡◌, Bool, true, false, List, [], ◌∷◌, ◌++◌, length, remove, zero}
use Rattle.std.specs.Prelude.{suc, nat_eq, ⊤}
use Rattle.pos_service.specs.declared.answer.Value.{Value}
use Rattle.pos_service.specs.declared.answer.Value.TheVariants as value
use Rattle.pos_totals.specs.HardTotals.{last_number}
use Rattle.pos_totals.specs.Tables.{new_tag}
use Rattle.pos_totals.specs.declared.handles.FileTag.{FileTag}
use Rattle.pos_dir.specs.declared.change.Change.{Change as FileChange}
use Rattle.pos_dir.specs.declared.change.Change.TheVariants as file
use Rattle.pos_dir.specs.declared.file.TheConstants.{LAYOUT_2}

-- the tags of so many files that have the handles from one on
abbrev pub tags_from : ℕ → ℕ → List FileTag
tags_from first zero = []
tags_from first (suc count) = new_tag first ∷ tags_from (first + 1) count

-- the change needs a handle, and none is left
abbrev pub lacks : ℕ → FileChange → Bool
lacks next (file.Create name size) = nat_eq next last_number
lacks next other = false

-- a new file finds a place and a handle for it, and a file that goes is there
abbrev pub HasPlace : List FileTag → ℕ → FileChange → Type 0
HasPlace given next (file.Create name size) = (length given < LAYOUT_2.files) × (next < last_number)
HasPlace given next (file.Delete index) = index < length given
HasPlace given next other = ⊤

-- the tags after a change
abbrev pub given_after : List FileTag → ℕ → FileChange → List FileTag
given_after given next (file.Create name size) = given ++ new_tag next ∷ []
given_after given next (file.Delete index) = remove given index
given_after given next other = given

-- the next handle after it
abbrev pub following : ℕ → FileChange → ℕ
following next (file.Create name size) = next + 1
following next other = next

-- what it gives
abbrev pub value_after : ℕ → FileChange → Value
value_after next (file.Create name size) = value.Number (pos next)
value_after next other = value.Empty

-- so many handles were given from the next one on, or fewer are left and none was given
abbrev pub Numbers : List FileTag → ℕ → ℕ → Bool → List FileTag → ℕ → Type 0
Numbers given next count true now next_now =
    (next + count ≤ last_number) × (now ≡ tags_from next count) × (next_now ≡ next + count)
Numbers given next count false now next_now = (last_number < next + count) × (now ≡ given) × (next_now ≡ next)
