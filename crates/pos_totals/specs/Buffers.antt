-- What may be buffered in transactions.
use Rattle.std.specs.Prelude.{◌≡◌, ◌<◌, ◌≤◌, ◌+◌, ℕ, ℤ, pos, negsuc, nat_abs, true, List, [], ◌∷◌, ◌++◌, length, Option}
use Rattle.std.specs.Prelude.{Some, None, IfSome, Result, Ok, Err, slice_set, ⊤}
use Rattle.std.specs.List.{AllByRecursion}
use Rattle.std.specs.Option.{option_map}
use Rattle.pos_dir.specs.declared.file.TheConstants.{LAYOUT_2}
use Rattle.pos_service.specs.declared.answer.Answer.{Answer}
use Rattle.pos_service.specs.declared.answer.Answer.TheVariants as answer
use Rattle.pos_service.specs.declared.answer.Value.TheVariants as value
use Rattle.pos_service.specs.declared.faults.NoMemory.{NoMemory}
use Rattle.pos_totals.specs.HardTotals.{File, Mode, Off, Ready, Change, Create, Delete, Rename, Edit, transaction_at}
use Rattle.pos_totals.specs.HardTotals.{without_transactions}
use Rattle.pos_totals.specs.Edits.{FileEdit, fits, edit_cost, edit_change, edit_in, edit_owned}
use Rattle.pos_totals.specs.TotalsFiles.{is_called}
use Rattle.pos_totals.specs.TotalsChanges.{cost_of_all}
use Rattle.pos_dir.specs.declared.change.Change.{Change as FileChange}
use Rattle.pos_dir.specs.declared.change.Change.TheVariants as file
use Rattle.pos_store.specs.declared.fault.StoreFault.{StoreFault}
use Rattle.pos_store.specs.declared.fault.StoreFault.TheVariants as fault
use Rattle.pos_totals.specs.declared.update.CheckedUpdate.{CheckedUpdate}
use Rattle.pos_totals.specs.declared.edits.OwnedEdit.{OwnedEdit}

-- the edit of the file with a handle
abbrev pub buffered_change : ℕ → OwnedEdit → Change
buffered_change handle edit = Edit (pos handle) (edit_owned edit)

-- a buffered change is of the file with a handle
abbrev pub IsOf : Change → ℕ → Type 0
IsOf (Create name size) number = ⊥
IsOf (Delete name) number = ⊥
IsOf (Rename handle name) number = ⊥
IsOf (Edit handle edit) number = handle ≡ pos number

-- the change of the directory that a buffered change is, the file's index being known
abbrev pub placed_change : ℕ → Change → FileChange
placed_change index (Create name size) = file.Create name (nat_abs size)
placed_change index (Delete name) = file.Delete index
placed_change index (Rename handle name) = file.Rename index name
placed_change index (Edit handle edit) = edit_change index edit

-- a handle that was given, the next one being known
abbrev pub IsGiven : ℕ → ℤ → Type 0
IsGiven next (pos handle) = handle < next
IsGiven next (negsuc n) = ⊥

-- an edit fits some file
abbrev pub FitsSome : FileEdit → Type 0
FitsSome edit = (size : ℕ) × (fits size edit ≡ true)

-- an edit fits each file with a handle
abbrev pub FitsEach : List File → ℤ → FileEdit → Type 0
FitsEach files handle edit =
    AllByRecursion (λ file. is_called handle file ≡ true → fits (length file.bytes) edit ≡ true) files

-- what is buffered is an edit that fits each file with its handle, which was given
abbrev pub IsBuffered : List File → ℕ → Change → Type 0
IsBuffered files next (Create name size) = ⊥
IsBuffered files next (Delete name) = ⊥
IsBuffered files next (Rename handle name) = ⊥
IsBuffered files next (Edit handle edit) = IsGiven next handle × FitsEach files handle edit × FitsSome edit

-- what a control may have buffered, by the mode of the totals
abbrev pub MayHold : Mode → ℕ → Option (List Change) → Type 0
MayHold Off next transaction = transaction ≡ None
MayHold (Ready files sequence) next transaction = IfSome transaction (AllByRecursion (IsBuffered files next))

-- what all controls have buffered
abbrev pub HaveBuffers : Mode → ℕ → List (Option (List Change)) → Type 0
HaveBuffers mode next transactions = AllByRecursion (MayHold mode next) transactions

-- a change is the edit of the file with this handle, if there is the edit
abbrev pub IsEdit : Change → Option ℕ → Option FileEdit → Type 0
IsEdit change named None = ⊤
IsEdit change None (Some edit) = ⊥
IsEdit change (Some handle) (Some edit) = change ≡ Edit (pos handle) edit

-- a change of the directory that may be buffered, of a file with this handle, was asked for as this one
abbrev pub IsAsked : Change → Option ℕ → FileChange → Type 0
IsAsked change named made = IsEdit change named (edit_in made)

-- a transaction has so much left, whatever the layout of the disk
abbrev pub HasLeft : Option (List Change) → ℕ → Type 0
HasLeft None cost = ⊥
HasLeft (Some buffer) cost = cost_of_all buffer + cost ≤ LAYOUT_2.bytes

-- A checked change is an edit, and the control is in a transaction that has enough left for it.
pub record MayBuffer (transactions : List (Option (List Change))) (control : ℕ) (made : CheckedUpdate) : Type 0 where
  pub handle : ℕ
  pub edit : FileEdit
  pub named : made.handle ≡ Some handle
  pub is : edit_in made.change ≡ Some edit
  pub left : HasLeft (transaction_at transactions control) (edit_cost edit)

-- the transactions with one more change after those that a control has buffered
abbrev pub with_buffered : List (Option (List Change)) → ℕ → Change → List (Option (List Change))
with_buffered transactions control change =
    slice_set transactions control (option_map (λ buffer. buffer ++ change ∷ []) (transaction_at transactions control))

-- A change was added to those that a control has buffered.
pub record Adds (old : List (Option (List Change))) (control : ℕ) (made : CheckedUpdate)
    (new : List (Option (List Change))) : Type 0 where
  pub change : Change
  pub asked : IsAsked change made.handle made.change
  pub added : new ≡ with_buffered old control change

-- what a call does that buffers a change; want of memory changes nothing
abbrev pub Buffers : List (Option (List Change)) → ℕ → CheckedUpdate → Result Answer NoMemory
    → List (Option (List Change)) → Type 0
Buffers old control made (Ok result) new = (result ≡ answer.Done value.Empty) × Adds old control made new
Buffers old control made (Err want) new = new ≡ old

-- the transactions after a call whose group the store refused: a fault of the disk ends them all
abbrev pub transactions_after : StoreFault → List (Option (List Change)) → List (Option (List Change))
transactions_after fault.Device transactions = without_transactions transactions
transactions_after fault.NoMemory transactions = transactions
transactions_after fault.Off transactions = transactions
transactions_after (fault.Refused cause) transactions = transactions
transactions_after fault.Exhausted transactions = transactions
transactions_after fault.Unformatted transactions = transactions
transactions_after fault.Damaged transactions = transactions
transactions_after fault.AlreadyLayout2 transactions = transactions
