-- Hard Totals: their files, their mode, and what controls have of them (chapter Hard Totals). Numbers of a call may be
-- below 0.
use Rattle.std.specs.Prelude.{◌≡◌, ◌⊎◌, ℕ, ◌+◌, ℤ, Bool, true, false, List, [], ◌∷◌, ◌++◌, map, slice_get, slice_set}
use Rattle.std.specs.Prelude.{Option, Some, None, is_some, nat_eq, if◌then◌else◌}
use Rattle.std.specs.Option.{option_flatten}
use Rattle.pos_image.specs.declared.layout.Layout.{Layout}
use Rattle.pos_store.specs.Layouts.{limits_of}
use Rattle.pos_totals.specs.Edits.{FileEdit}

-- How much totals may hold, which goes by the layout of their disk: the most bytes of all files in total (TotalsSize),
-- the most files, and the most that the changes of one transaction may cost in total.
pub record TotalsLimits : Type 0 where
  pub bytes : ℕ
  pub files : ℕ
  pub cost : ℕ

-- the limits of totals on a disk of a layout: those of its files, and a transaction may cost as much as all files may
-- hold
abbrev pub totals_limits : Layout → TotalsLimits
totals_limits layout = record {
  bytes = (limits_of layout).bytes;
  files = (limits_of layout).files;
  cost = (limits_of layout).bytes;
}

-- the last number of 64 bits: no file gets it as its handle, and no sequence follows it
abbrev pub last_number : ℕ
last_number = 18446744073709551615

-- the sequences to which a group of changes may lead from one: it stays if the group goes after the image that is
-- there, and a new image has the next one; the last sequence has none
abbrev pub next_sequences : ℕ → List ℕ
next_sequences sequence =
    if nat_eq sequence last_number then sequence ∷ [] else sequence ∷ (sequence + 1) ∷ []

-- a number is one of these
abbrev pub IsAmong : ℕ → List ℕ → Type 0
IsAmong number [] = ⊥
IsAmong number (first ∷ others) = (number ≡ first) ⊎ IsAmong number others

-- a file: the handle by which calls name it, its name, its bytes, and the control that has claimed it
pub record File : Type 0 where
  pub handle : ℕ
  pub name : List ℕ
  pub bytes : List ℕ
  pub claim : Option ℕ

-- off, or ready with the files in the order of their creation and the sequence of the image that they are from
pub data Mode : Type 0 where
  Off : Mode
  Ready : (files : List File) (sequence : ℕ) → Mode

-- a change of the files, as a call asks for it: create, delete, rename, or an edit of a file
pub data Change : Type 0 where
  Create : (name : List ℕ) (size : ℤ) → Change
  Delete : (name : List ℕ) → Change
  Rename : (handle : ℤ) (name : List ℕ) → Change
  Edit : (handle : ℤ) (edit : FileEdit) → Change

-- The totals: the layout that the last recovery found that succeeded (before the first that of a new disk); what is
-- known of the files; the place in the disk's current slot after its records, or 0 while the files aren't known; the
-- handle that the next new file gets; and the control that has claimed the area (the whole device). By the controls'
-- numbers, also the changes that each has buffered, in their order, or None for a control that is in no transaction.
pub record Totals : Type 0 where
  pub layout : Layout
  pub mode : Mode
  pub tail : ℕ
  pub next : ℕ
  pub area : Option ℕ
  pub transactions : List (Option (List Change))

-- what a control has buffered, or None if it is in no transaction
abbrev pub transaction_at : List (Option (List Change)) → ℕ → Option (List Change)
transaction_at transactions control = option_flatten (slice_get transactions control)

abbrev pub transaction_of : Totals → ℕ → Option (List Change)
transaction_of totals control = transaction_at totals.transactions control

-- TransactionInProgress
abbrev pub in_transaction : Totals → ℕ → Bool
in_transaction totals control = is_some (transaction_of totals control)

-- the files are known
abbrev pub is_ready : Mode → Bool
is_ready Off = false
is_ready (Ready files sequence) = true

-- the files, if they are known
abbrev pub files_of : Mode → List File
files_of Off = []
files_of (Ready files sequence) = files

-- the sequences that totals may have after a group
abbrev pub sequences_after : Mode → List ℕ
sequences_after Off = []
sequences_after (Ready files sequence) = next_sequences sequence

-- no control is in a transaction
abbrev pub without_transactions : List (Option (List Change)) → List (Option (List Change))
without_transactions transactions = map (λ transaction. None) transactions

-- totals whose disk has failed: what the disk has is not known, nothing is claimed of it nor buffered for it; the
-- layout and the next handle stay, and so does the claim of the area
abbrev pub after_disk_fault : Totals → Totals
after_disk_fault totals =
    record totals { mode = Off; tail = 0; transactions = without_transactions totals.transactions }

-- totals with another transaction of a control
abbrev pub with_transaction : Totals → ℕ → Option (List Change) → Totals
with_transaction totals control transaction =
    record totals { transactions = slice_set totals.transactions control transaction }

-- the sequence of the image that the files are from, or 0 if they aren't known
abbrev pub sequence_of : Mode → ℕ
sequence_of Off = 0
sequence_of (Ready files sequence) = sequence

-- the sequence is the last one
abbrev pub is_last : Mode → Bool
is_last Off = false
is_last (Ready files sequence) = nat_eq sequence last_number

-- the changes that a control has buffered: none outside a transaction
abbrev pub changes_in : Option (List Change) → List Change
changes_in None = []
changes_in (Some buffer) = buffer

-- the mode with other files, if there are files
abbrev pub with_files : (List File → List File) → Mode → Mode
with_files change Off = Off
with_files change (Ready files sequence) = Ready (change files) sequence

-- the totals with a place for one more control's transaction
abbrev pub with_control : Totals → Totals
with_control totals = record totals { transactions = totals.transactions ++ None ∷ [] }
