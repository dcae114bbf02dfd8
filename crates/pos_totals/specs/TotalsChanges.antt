-- Changes of the files: create, delete, rename, and edits of a file (chapter Hard Totals).
use Rattle.std.specs.Prelude.{◌≡◌, ◌⊎◌, ℕ, ◌+◌, pos, nat_abs, Bool, true, false, not, ◌&&◌, ◌||◌, List, [], ◌∷◌, ◌++◌}
use Rattle.std.specs.Prelude.{length, replicate, sum_by, Option, Some, None, is_some, is_none, nat_eq, nat_le, Result}
use Rattle.std.specs.Prelude.{MatchOption, MatchResult, if◌then◌else◌}
use Rattle.std.specs.List.{find, filter}
use Rattle.std.specs.Option.{option_map}
use Rattle.pos_service.specs.declared.answer.Answer.{Answer}
use Rattle.pos_service.specs.declared.answer.Answer.TheVariants as answer
use Rattle.pos_service.specs.declared.answer.Value.{Value}
use Rattle.pos_service.specs.declared.answer.Value.TheVariants as value
use Rattle.pos_service.specs.declared.call.Call.{Call}
use Rattle.pos_service.specs.declared.call.Call.TheVariants as call
use Rattle.pos_service.specs.declared.code.Code.TheVariants as code
use Rattle.pos_service.specs.declared.faults.NoMemory.{NoMemory}
use Rattle.pos_service.specs.Numbers.{is_natural}
use Rattle.pos_service.specs.Refusals.{Row, when, first_refusal, Decided}
use Rattle.pos_totals.specs.HardTotals.{TotalsLimits, totals_limits, last_number, IsAmong, File, Mode, Off, Ready}
use Rattle.pos_totals.specs.HardTotals.{Change, Create, Delete, Rename, Edit, Totals, transaction_of, in_transaction}
use Rattle.pos_totals.specs.HardTotals.{sequences_after, after_disk_fault, with_transaction, is_last, files_of}
use Rattle.pos_totals.specs.HardTotals.{sequence_of}
use Rattle.pos_totals.specs.Groups.{group_of}
use Rattle.pos_store.specs.Commits as store
use Rattle.pos_totals.specs.Edits.{FileEdit, edit_asked, fits, edit_cost, edited}
use Rattle.pos_totals.specs.TotalsFiles.{is_name, is_named, is_called, has_file, is_foreign_file, has_room, with_each}
use Rattle.pos_totals.specs.TotalsRows.{when_no_room, while_ready, when_foreign_area}

-- the change that a call asks for, if it asks for one; error detection has no effect
abbrev pub change_asked : Call → Option Change
change_asked (call.Create name size detection) = Some (Create name size)
change_asked (call.Delete name) = Some (Delete name)
change_asked (call.Rename handle name) = Some (Rename handle name)
change_asked asked = option_map (λ edit. Edit edit.0 edit.1) (edit_asked asked)

-- the file that a change is of, if there is the file; a new one isn't there yet
abbrev pub changed_file : List File → Change → Option File
changed_file files (Create name size) = None
changed_file files (Delete name) = find (is_named name) files
changed_file files (Rename handle name) = find (is_called handle) files
changed_file files (Edit handle edit) = find (is_called handle) files

-- there is the file, and the edit fits it
abbrev pub fits_file : Option File → FileEdit → Bool
fits_file None edit = false
fits_file (Some file) edit = fits (length file.bytes) edit

-- what a buffered change costs
abbrev pub cost_of : Change → ℕ
cost_of (Create name size) = 0
cost_of (Delete name) = 0
cost_of (Rename handle name) = 0
cost_of (Edit handle edit) = edit_cost edit

-- what changes cost in total
abbrev pub cost_of_all : List Change → ℕ
cost_of_all changes = sum_by cost_of changes

-- what a control's buffered changes cost in total, or None if it is in no transaction
abbrev pub spent_by : Totals → ℕ → Option ℕ
spent_by totals control = option_map cost_of_all (transaction_of totals control)

-- a cost is more than is left to the transaction in which so much is spent; outside one there is no limit
abbrev pub is_over : TotalsLimits → Option ℕ → ℕ → Bool
is_over limits None cost = false
is_over limits (Some spent) cost = not (nat_le (spent + cost) limits.cost)

-- The refusals of each change that a control asks for, in their order; what it has spent is known if it is in a
-- transaction.
abbrev pub change_rows : TotalsLimits → List File → ℕ → Option ℕ → Change → List Row
change_rows limits files control spent (Create name size) =
    when (is_some spent || not (is_name name && is_natural size)) code.Illegal
    ∷ when (has_file (is_named name) files) code.Exists
    ∷ when_no_room (not (has_room limits files size))
    ∷ []
change_rows limits files control spent (Delete name) =
    when (is_some spent) code.Illegal
    ∷ when (not (has_file (is_named name) files)) code.NoExist
    ∷ when (is_foreign_file control (find (is_named name) files)) code.Claimed
    ∷ []
change_rows limits files control spent (Rename handle name) =
    when (is_some spent || not (has_file (is_called handle) files && is_name name)) code.Illegal
    ∷ when (has_file (is_named name) files) code.Exists
    ∷ when (is_foreign_file control (find (is_called handle) files)) code.Claimed
    ∷ []
change_rows limits files control spent (Edit handle edit) =
    when (not (fits_file (find (is_called handle) files) edit)) code.Illegal
    ∷ when (is_foreign_file control (find (is_called handle) files)) code.Claimed
    ∷ when_no_room (is_over limits spent (edit_cost edit))
    ∷ []

-- the same by the totals, whose layout has the limits, and the number of the control that calls
abbrev pub refusals_of_change : Totals → ℕ → Change → List Row
refusals_of_change totals control change =
    let limits = totals_limits totals.layout in
    when_foreign_area totals control
    ∷ while_ready totals.mode (λ files. change_rows limits files control (spent_by totals control) change)

-- The files after each change: a new file of zero bytes after the others, one file less, or one file with another name
-- or with other bytes.
abbrev pub files_after : ℕ → List File → Change → List File
files_after next files (Create name size) =
    files ++ record { handle = next; name = name; bytes = replicate (nat_abs size) 0; claim = None } ∷ []
files_after next files (Delete name) = filter (λ file. not (is_named name file)) files
files_after next files (Rename handle name) = with_each (is_called handle) (λ file. record file { name = name }) files
files_after next files (Edit handle edit) =
    with_each (is_called handle) (λ file. record file { bytes = edited edit file.bytes }) files

-- the change makes a new file
abbrev pub is_create : Change → Bool
is_create (Create name size) = true
is_create (Delete name) = false
is_create (Rename handle name) = false
is_create (Edit handle edit) = false

-- the next handle after a change: a new file has used up its own
abbrev pub next_after : ℕ → Change → ℕ
next_after next change = if is_create change then next + 1 else next

-- the files after changes in their order, and the next handle after them
abbrev pub files_after_all : ℕ → List File → List Change → List File
files_after_all next files [] = files
files_after_all next files (change ∷ changes) =
    files_after_all (next_after next change) (files_after next files change) changes

abbrev pub next_after_all : ℕ → List Change → ℕ
next_after_all next [] = next
next_after_all next (change ∷ changes) = next_after_all (next_after next change) changes

-- a change gives the new file's handle, if it makes one
abbrev pub given_by : ℕ → Change → Value
given_by next change = if is_create change then value.Number (pos next) else value.Empty

-- the group of changes of these totals fits after the records of the disk, by its layout; else it needs a new image
abbrev pub fits_behind : Totals → List Change → Bool
fits_behind totals changes = store.fits_behind totals.layout totals.tail (group_of (files_of totals.mode) changes)

-- the sequence after changes: the same if their group fits after the records, else the next one, of a new image
abbrev pub sequence_then : Totals → List Change → ℕ
sequence_then totals changes =
    if fits_behind totals changes then sequence_of totals.mode else sequence_of totals.mode + 1

-- the place at which the records end then
abbrev pub tail_then : Totals → List Change → ℕ
tail_then totals changes = store.tail_after totals.layout totals.tail (group_of (files_of totals.mode) changes)

-- the files after changes that were done together, with the sequence that they have then
abbrev pub mode_after : ℕ → Mode → List Change → ℕ → Mode
mode_after next Off changes sequence = Off
mode_after next (Ready files old) changes sequence = Ready (files_after_all next files changes) sequence

abbrev pub after_changes : Totals → List Change → ℕ → Totals
after_changes totals changes sequence =
    let mode = mode_after totals.next totals.mode changes sequence in
    record totals { mode = mode; tail = tail_then totals changes; next = next_after_all totals.next changes }

-- Changes are done together, and lead to one of the next sequences, by whether their group fits after the records.
pub record DoesTogether (old : Totals) (changes : List Change) (new : Totals) : Type 0 where
  pub sequence : ℕ
  pub follows : IsAmong sequence (sequences_after old.mode)
  pub is : sequence ≡ sequence_then old changes
  pub totals : new ≡ after_changes old changes sequence

-- E_FAILURE if the handle that a new file needs has run out
abbrev pub number_rows : Totals → Change → List Row
number_rows totals change = when (is_create change && nat_eq totals.next last_number) code.Failure ∷ []

-- A group of changes finds no sequence for a new image. That happens only at the last sequence, and only if the group
-- needs a new image: one that fits after the records is done.
abbrev pub RunsOut : Totals → List Change → Answer → Totals → Type 0
RunsOut old changes result new =
    (is_last old.mode ≡ true) × (fits_behind old changes ≡ false) × (result ≡ answer.Refused code.Failure 0)
    × (new ≡ old)

-- A group of changes is done whole, or the disk fails in it. It fails only if DiskFailed holds: the disk's count of
-- failures rose in the call.
abbrev pub Done : Type 0 → Totals → List Change → Value → Answer → Totals → Type 0
Done DiskFailed old changes given result new =
    ((result ≡ answer.Done given) × DoesTogether old changes new)
    ⊎ ((result ≡ answer.Refused code.Failure 0) × DiskFailed × (new ≡ after_disk_fault old))

-- A change that its table allows is buffered in the transaction of the control that asks for it, after what that has
-- buffered. Outside a transaction it is answered by the handle that it needs, and then done, if the sequences don't run
-- out.
abbrev pub DoesChange : Type 0 → Totals → ℕ → Change → Answer → Totals → Type 0
DoesChange DiskFailed old control change result new = MatchOption (transaction_of old control)
    (Decided (number_rows old change) result (new ≡ old)
    (RunsOut old (change ∷ []) result new
    ⊎ Done DiskFailed old (change ∷ []) (given_by old.next change) result new))
    (λ buffer. (result ≡ answer.Done value.Empty) × (new ≡ with_transaction old control (Some (buffer ++ change ∷ []))))

-- A change is answered by its table, and then does what it does. Memory runs out only after the table, and then nothing
-- changes.
abbrev pub Changed : Type 0 → Totals → ℕ → Change → Result Answer NoMemory → Totals → Type 0
Changed DiskFailed old control change outcome new = MatchResult outcome
    (λ result.
    Decided (refusals_of_change old control change) result (new ≡ old)
    (DoesChange DiskFailed old control change result new))
    (λ want. (first_refusal (refusals_of_change old control change) ≡ None) × (new ≡ old))

-- the group of changes that a change puts on the disk: none if it is refused, and none if it is buffered
abbrev pub group_by_change : Totals → ℕ → Change → List Change
group_by_change totals control change =
    if is_none (first_refusal (refusals_of_change totals control change)) && not (in_transaction totals control)
    then change ∷ []
    else []
