-- What each step of a change does to the bytes of a disk.
use Rattle.std.specs.Prelude.{◌≡◌, ◌+◌, ◌-◌, ℕ, List, length, get_or, true, if◌then◌else◌}
use Rattle.pos_disk.specs.State.{DiskState, InRange, LeavesOnly, splice}
use Rattle.pos_disk.specs.Within.{SameBut}
use Rattle.pos_image.specs.Layout.{is_open, closed_gate, start, layout_of, slot_size, log_place, IsOfImage}
use Rattle.pos_image.specs.declared.slot.Slot.{Slot}

-- these bytes stand at a place now
abbrev pub IsWritten : ℕ → List ℕ → DiskState → DiskState → Type 0
IsWritten at bytes old new = new.reading ≡ splice old.reading at bytes

-- only the n bytes from a place on differ
abbrev pub Keeps : ℕ → ℕ → DiskState → DiskState → Type 0
Keeps at n old new = SameBut at n old.reading new.reading

-- Only the n bytes from a place on differ, and those at places that were loose.
pub record SameAside (loose : ℕ → Type 0) (at n : ℕ) (was bytes : List ℕ) : Type 0 where
  pub same_length : length bytes ≡ length was
  pub elsewhere : (i : ℕ) → ¬ (InRange at n i) → ¬ (loose i) → get_or bytes i 0 ≡ get_or was i 0

-- whenever a crash came, only these differ, beside what was loose before
abbrev pub CrashKeeps : ℕ → ℕ → DiskState → DiskState → Type 0
CrashKeeps at n old new = LeavesOnly old new (SameAside old.loose at n old.reading)

-- the gate at this place was closed where it was open, and else kept its byte
abbrev pub ClosesGate : ℕ → DiskState → DiskState → Type 0
ClosesGate at old new = get_or new.reading at 0 ≡ closed_gate old.reading at

-- whenever a crash came while the gate at this place was closed, it alone differs, and only if it was open
abbrev pub CrashClosing : ℕ → DiskState → DiskState → Type 0
CrashClosing at old new = CrashKeeps at (if is_open old.reading at then 1 else 0) old new

-- only this slot differs, behind its gate
abbrev pub KeepsGate : Slot → DiskState → DiskState → Type 0
KeepsGate slot old new = Keeps (start slot + 1) (slot_size (layout_of slot) - 1) old new

abbrev pub CrashKeepsGate : Slot → DiskState → DiskState → Type 0
CrashKeepsGate slot old new = CrashKeeps (start slot + 1) (slot_size (layout_of slot) - 1) old new

-- the gate of the log in this slot is 0
abbrev pub HasNoLog : Slot → DiskState → Type 0
HasNoLog slot disk = get_or disk.reading (start slot + log_place (layout_of slot)) 0 ≡ 0

-- Nothing was written but what an image with a body of n bytes takes in this slot.
pub record KeepsBeside (slot : Slot) (n : ℕ) (old new : DiskState) : Type 0 where
  pub same_length : length new.reading ≡ length old.reading
  pub elsewhere : (i : ℕ) → ¬ (IsOfImage slot n i) → get_or new.reading i 0 ≡ get_or old.reading i 0

-- Only this slot differs, and where its gate is open, it was, and only the gate differs.
pub record Stages (slot : Slot) (old new : List ℕ) : Type 0 where
  pub same : SameBut (start slot) (slot_size (layout_of slot)) old new
  pub behind : is_open new (start slot) ≡ true → (is_open old (start slot) ≡ true) × SameBut (start slot) 1 old new

-- The same of bytes of which those at some places may be any.
pub record StagesAside (loose : ℕ → Type 0) (slot : Slot) (old new : List ℕ) : Type 0 where
  pub same : SameAside loose (start slot) (slot_size (layout_of slot)) old new
  pub behind : is_open new (start slot) ≡ true
      → (is_open old (start slot) ≡ true) × SameAside loose (start slot) 1 old new

-- whenever a crash came, no more had happened to the slot, beside what was loose before
abbrev pub CrashStages : Slot → DiskState → DiskState → Type 0
CrashStages slot old new = LeavesOnly old new (StagesAside old.loose slot old.reading)
