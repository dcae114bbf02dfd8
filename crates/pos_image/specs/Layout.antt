-- The layouts of a disk: where their slots lie, and the fields of a slot. Numbers are big-endian.
-- docs/reference/totals-file.md, "The layouts".
use Rattle.std.specs.Prelude.{◌≡◌, ◌⊎◌, ◌+◌, ℕ, List, get_or, nat_eq, Bool, ◌||◌, if◌then◌else◌}
use Rattle.std.specs.Int.{w32, w64, from_be_bytes}
use Rattle.pos_disk.specs.State.{InRange, part}
use Rattle.pos_image.specs.declared.layout.Layout.{Layout}
use Rattle.pos_image.specs.declared.layout.Layout.TheVariants.{Layout1, Layout2}
use Rattle.pos_image.specs.declared.slot.Slot.{Slot}
use Rattle.pos_image.specs.declared.slot.Slot.TheVariants.{First, Second, Third, Fourth}

-- how many bytes a disk has at least
abbrev pub disk_size : ℕ
disk_size = 327680

-- how many bytes a slot has
abbrev pub slot_size : Layout → ℕ
slot_size Layout1 = 32768
slot_size Layout2 = 131072

-- where the body of a slot begins, counted from its gate, and how many bytes it has at most
abbrev pub body_place : ℕ
body_place = 13

abbrev pub longest : Layout → ℕ
longest Layout1 = 16371
longest Layout2 = 81907

-- where the log of a slot begins, counted from its gate, and how many bytes it has
abbrev pub log_place : Layout → ℕ
log_place Layout1 = 16384
log_place Layout2 = 81920

abbrev pub log_size : Layout → ℕ
log_size Layout1 = 16384
log_size Layout2 = 49152

-- an open gate
abbrev pub open_gate : ℕ
open_gate = 165

-- where a slot begins
abbrev pub start : Slot → ℕ
start First = 0
start Second = 32768
start Third = 65536
start Fourth = 196608

-- the layout that a slot is of
abbrev pub layout_of : Slot → Layout
layout_of First = Layout1
layout_of Second = Layout1
layout_of Third = Layout2
layout_of Fourth = Layout2

-- the slot beside this one, of the same layout
abbrev pub other : Slot → Slot
other First = Second
other Second = First
other Third = Fourth
other Fourth = Third

-- the first slot of a layout
abbrev pub first_of : Layout → Slot
first_of Layout1 = First
first_of Layout2 = Third

-- the gate at this place is open
abbrev pub is_open : List ℕ → ℕ → Bool
is_open bytes at = nat_eq (get_or bytes at 0) open_gate

-- a gate of layout 2 is open
abbrev pub is_migrated : List ℕ → Bool
is_migrated bytes = is_open bytes (start Third) || is_open bytes (start Fourth)

-- the layout of a disk with these bytes
unfoldable pub layout_on : List ℕ → Layout
layout_on bytes = if is_migrated bytes then Layout2 else Layout1

-- what a gate holds once it was closed: one that is closed already keeps its byte
abbrev pub closed_gate : List ℕ → ℕ → ℕ
closed_gate bytes at = if is_open bytes at then 0 else get_or bytes at 0

-- the sequence of the slot that begins at this place
unfoldable pub sequence_at : List ℕ → ℕ → ℕ
sequence_at bytes at = from_be_bytes w64 (part (at + 1) 8 bytes)

-- the length of its body
unfoldable pub length_at : List ℕ → ℕ → ℕ
length_at bytes at = from_be_bytes w32 (part (at + 9) 4 bytes)

-- its body
unfoldable pub body_at : List ℕ → ℕ → List ℕ
body_at bytes at = part (at + body_place) (length_at bytes at) bytes

-- place i is the gate, a field, the body's or the log's gate, where a body of n bytes lies in this slot
abbrev pub IsOfImage : Slot → ℕ → ℕ → Type 0
IsOfImage slot n i = InRange (start slot) (body_place + n) i ⊎ (i ≡ start slot + log_place (layout_of slot))
