-- What slots and their gates hold.
use Rattle.std.specs.Prelude.{◌≡◌, ◌≤◌, ◌<◌, ◌+◌, ℕ, List, length, get_or, true, false}
use Rattle.pos_disk.specs.State.{DiskState, part}
use Rattle.pos_image.specs.Layout.{disk_size, longest, log_place, body_place, start, other, first_of, layout_of}
use Rattle.pos_image.specs.Layout.{layout_on, is_open, sequence_at, length_at, body_at}
use Rattle.pos_image.specs.declared.layout.Layout.{Layout}
use Rattle.pos_image.specs.declared.slot.Slot.{Slot}
use Rattle.pos_image.specs.declared.heads.Head.{Head}
use Rattle.pos_image.specs.declared.heads.Heads.{Heads}

-- The image in this slot is the current one.
pub record IsCurrent (bytes : List ℕ) (slot : Slot) (body : List ℕ) (sequence : ℕ) : Type 0 where
  pub whole : disk_size ≤ length bytes
  pub layout_is : layout_on bytes ≡ layout_of slot
  pub gate : is_open bytes (start slot) ≡ true
  pub sequence_is : sequence_at bytes (start slot) ≡ sequence
  pub fits : length_at bytes (start slot) ≤ longest (layout_of slot)
  pub body_is : body_at bytes (start slot) ≡ body
  pub greater : is_open bytes (start (other slot)) ≡ true → sequence_at bytes (start (other slot)) < sequence

-- Behind the gate at this place stand the sequence, the length of the body, and the body.
pub record HasFields (bytes : List ℕ) (at sequence : ℕ) (body : List ℕ) : Type 0 where
  pub sequence_is : sequence_at bytes at ≡ sequence
  pub length_is : length_at bytes at ≡ length body
  pub body_is : body_at bytes at ≡ body

-- An image is in this slot, behind a closed gate, and the first gate of its log is 0.
pub record IsPrepared (bytes : List ℕ) (slot : Slot) (body : List ℕ) (sequence : ℕ) : Type 0 where
  pub gate : is_open bytes (start slot) ≡ false
  pub sequence_is : sequence_at bytes (start slot) ≡ sequence
  pub fits : length_at bytes (start slot) ≤ longest (layout_of slot)
  pub body_is : body_at bytes (start slot) ≡ body
  pub log : get_or bytes (start slot + log_place (layout_of slot)) 0 ≡ 0

-- What a slot's gate and first fields say.
pub record HasHead (bytes : List ℕ) (at : ℕ) (head : Head) : Type 0 where
  pub gate : is_open bytes at ≡ head.gate
  pub sequence : sequence_at bytes at ≡ head.sequence
  pub length : length_at bytes at ≡ head.length

-- The bytes are long enough and of this layout, whose slots have these heads.
pub record HasHeads (bytes : List ℕ) (layout : Layout) (first second : Head) : Type 0 where
  pub whole : disk_size ≤ length bytes
  pub layout_is : layout_on bytes ≡ layout
  pub at_first : HasHead bytes (start (first_of layout)) first
  pub at_second : HasHead bytes (start (other (first_of layout))) second

-- The image in this slot is the current one, whatever its body.
pub record IsFound (bytes : List ℕ) (slot : Slot) (sequence size : ℕ) : Type 0 where
  pub layout_is : layout_on bytes ≡ layout_of slot
  pub gate : is_open bytes (start slot) ≡ true
  pub sequence_is : sequence_at bytes (start slot) ≡ sequence
  pub length_is : length_at bytes (start slot) ≡ size
  pub fits : size ≤ longest (layout_of slot)
  pub greater : is_open bytes (start (other slot)) ≡ true → sequence_at bytes (start (other slot)) < sequence

-- What was read of both slots is so.
abbrev pub HeadsAre : List ℕ → Heads → Type 0
HeadsAre bytes heads = HasHeads bytes heads.layout heads.first heads.second

-- the slot and the head that were found are those of the current image
abbrev pub FindsSlot : List ℕ → Slot × Head → Type 0
FindsSlot bytes found = IsFound bytes found.0 found.1.sequence found.1.length

-- the bytes where a body of this length lies in a slot
abbrev pub body_in : Slot → ℕ → DiskState → List ℕ
body_in slot n disk = part (start slot + body_place) n disk.reading
