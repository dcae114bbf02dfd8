-- Changes that are buffered: they stay so whatever changes the files, and all of them make one group.
use Rattle.pos_totals.proofs.Common.{AllByRecursion, AreDistinct, Change, Create, Delete, Edit, File, FileEdit}
use Rattle.pos_totals.proofs.Common.{FitsEach, HaveBuffers, IsBuffered, IsGiven, Layout, List, MayHold, Mode, None, Off}
use Rattle.pos_totals.proofs.Common.{Ok, Option, Ready, Rename, Some, [], ap, arith, called, edited, false, files_after}
use Rattle.pos_totals.proofs.Common.{files_after_all, find, fits, fits_file, following, group_of, handles_of, is_called}
use Rattle.pos_totals.proofs.Common.{is_named, is_of_none, length, limits_of, list_any, nat_abs, nat_tests, next_after}
use Rattle.pos_totals.proofs.Common.{next_after_all, not, outcome_of_all, plain, refl, replicate, slice_set, subst, suc}
use Rattle.pos_totals.proofs.Common.{sym, tag_of, tags_of, transaction_at, true, with_each, without_transactions, zero}
use Rattle.pos_totals.proofs.Common.{ℕ, ℤ, ◌∙◌, ◌∷◌, ◌≡◌, ◌≤◌}
use Rattle.pos_totals.proofs.EditLemmas.{keeps_size}
use Rattle.pos_totals.proofs.GroupLemmas.{IsUnrefused, made_edit, edit_fits, some_of, fitting, only_called}
use Rattle.pos_totals.proofs.HandleLemmas.{all_so, all_with}
use Rattle.pos_totals.proofs.OutlineLemmas.{outline, outlines, same_buffered, same_group, same_distinct, one_meets}
use Rattle.pos_totals.proofs.OutlineLemmas.{found_has, all_left}
use Rattle.pos_totals.proofs.PlaceLemmas.{kept}

-- ---- whatever changes the files

given_more : {next later : ℕ} (handle : ℤ) → next ≤ later → IsGiven next handle → IsGiven later handle
given_more handle more given = grind arith

-- no given handle is that of a new file
new_handle : (next : ℕ) (handle : ℤ) (name bytes : List ℕ) → IsGiven next handle
    → is_called handle (record { handle = next; name = name; bytes = bytes; claim = None }) ≡ true → ⊥
new_handle next handle name bytes given called = grind (arith, nat_tests)

-- an edit that fits the file with a handle fits each such file
pub all_fit : (files : List File) (handle : ℤ) (edit : FileEdit) → AreDistinct (handles_of files)
    → fits_file (find (is_called handle) files) edit ≡ true → FitsEach files handle edit
all_fit files handle edit distinct fit =
    let found = fitting (find (is_called handle) files) edit fit in
    one_meets (is_called handle) (λ file. fits (length file.bytes) edit ≡ true) files
    (only_called files handle distinct) found.1 found.2

-- an edit that fits keeps all sizes
edits_keep : (files : List File) (handle : ℤ) (edit : FileEdit) → FitsEach files handle edit
    → outlines (with_each (is_called handle) (λ file. record file { bytes = edited edit file.bytes }) files)
    ≡ outlines files
edits_keep [] handle edit fit = refl
edits_keep (first ∷ files) handle edit fit =
    grind (arith, nat_tests, fit.0, keeps_size edit first.bytes, edits_keep files handle edit fit.1)

-- what is buffered stays so after a change that nothing refuses
pub buffered_after : {layout : Layout} {files : List File} {next control : ℕ} {spent : Option ℕ}
    (change buffered : Change) → IsUnrefused layout files next control spent change → IsBuffered files next buffered
    → IsBuffered (files_after next files change) (next_after next change) buffered
buffered_after {files} {next} (Create name size) (Edit handle edit) may is = (
  given_more handle (omega arith) is.0,
  all_with (λ file. is_called handle file ≡ true → fits (length file.bytes) edit ≡ true) files is.1
      (λ called. absurd (new_handle next handle name (replicate (nat_abs size) 0) is.0 called)),
  is.2,
)
buffered_after {files} (Delete name) (Edit handle edit) may is =
    (is.0, all_left _ (λ file. not (is_named name file)) files is.1, is.2)
buffered_after {files} {next} (Rename other name) (Edit handle edit) may is =
    same_buffered files (files_after next files (Rename other name)) next (Edit handle edit)
    (sym (kept outline (is_called other) (λ file. record file { name = name }) files (λ file. refl))) is
buffered_after {files} {next} (Edit other done) (Edit handle edit) may is =
    same_buffered files (files_after next files (Edit other done)) next (Edit handle edit)
    (sym (edits_keep files other done (all_fit files other done may.theirs.distinct (edit_fits may)))) is
buffered_after change other may is = absurd is

-- ---- one group of all that is buffered

-- what is buffered keeps handles, claims and sizes, and the next handle
pub keeps_all : (files : List File) (next : ℕ) (changes : List Change) → AllByRecursion (IsBuffered files next) changes
    → let after = files_after_all next files changes in
    (outlines after ≡ outlines files) × (tags_of after ≡ tags_of files) × (next_after_all next changes ≡ next)
keeps_all files next [] all = (refl, refl, refl)
keeps_all files next (Edit handle edit ∷ changes) all =
    let (first, others) = all in
    let same = edits_keep files handle edit first.1 in
    let rest = keeps_all (files_after next files (Edit handle edit)) next changes
    (all_so _ _ changes (λ change is. same_buffered files _ next change (sym same) is) others) in (
      rest.0 ∙ same,
      rest.1 ∙ kept tag_of (is_called handle) (λ file. record file { bytes = edited edit file.bytes }) files
          (λ file. refl),
      rest.2,
    )
keeps_all files next (other ∷ changes) all = absurd all.0

-- where no file is gone, the group of all that is buffered makes of the plain files those after it
pub makes_all : (layout : Layout) (files : List File) (next : ℕ) (changes : List Change)
    → AreDistinct (handles_of files) → AllByRecursion (IsBuffered files next) changes
    → list_any (is_of_none files) changes ≡ false → outcome_of_all (limits_of layout) (plain files)
    (group_of files changes) ≡ Ok (plain (files_after_all next files changes))
makes_all layout files next [] distinct all there = refl
makes_all layout files next (Edit handle edit ∷ changes) distinct all there =
    let after = files_after next files (Edit handle edit) in
    let (first, others) = all in
    let (file, is_found) = some_of (find (is_called handle) files) (grind (arith, nat_tests)) in
    let fit : fits_file (find (is_called handle) files) edit ≡ true =
    ap (λ (o : Option File). fits_file o edit) is_found
    ∙ found_has (is_called handle) (λ file. fits (length file.bytes) edit ≡ true) files file first.1 is_found in
    let same = edits_keep files handle edit first.1 in
    let alike = same_group files after next changes (sym same) others in
    rw (made_edit layout files handle edit next distinct fit, alike.0) (makes_all layout after next changes
    (same_distinct files after (sym same) distinct) (all_so _ _ changes (λ change is. same_buffered files after next
    change (sym same) is) others) (sym alike.1 ∙ grind (arith, nat_tests, there)))
makes_all layout files next (other ∷ changes) distinct all there = absurd all.0

-- ---- what all controls hold

-- the transaction of a control may be held
pub held_at : (mode : Mode) (next : ℕ) (transactions : List (Option (List Change))) (control : ℕ) {buffer : List Change}
    → HaveBuffers mode next transactions → transaction_at transactions control ≡ Some buffer
    → MayHold mode next (Some buffer)
held_at mode next [] control all is = absurd cc
held_at mode next (first ∷ others) zero all is = subst (MayHold mode next) is all.0
held_at mode next (first ∷ others) (suc control) all is = held_at mode next others control all.1 is

-- another transaction of a control that may be held
pub held_with : (mode : Mode) (next : ℕ) (transactions : List (Option (List Change))) (control : ℕ)
    (transaction : Option (List Change)) → HaveBuffers mode next transactions → MayHold mode next transaction
    → HaveBuffers mode next (slice_set transactions control transaction)
held_with mode next [] control transaction all may = tt
held_with mode next (first ∷ others) zero transaction all may = (may, all.1)
held_with mode next (first ∷ others) (suc control) transaction all may =
    (all.0, held_with mode next others control transaction all.1 may)

-- no transaction may always be held
pub none_held : (mode : Mode) (next : ℕ) → MayHold mode next None
none_held Off next = refl
none_held (Ready files sequence) next = tt

pub none_hold : (mode : Mode) (next : ℕ) (transactions : List (Option (List Change)))
    → HaveBuffers mode next (without_transactions transactions)
none_hold mode next [] = tt
none_hold mode next (first ∷ others) = (none_held mode next, none_hold mode next others)

-- what is held of files is held of others for which it may be buffered
pub holds_so : (files after : List File) (sequence later : ℕ) {next following : ℕ}
    (transactions : List (Option (List Change)))
    → ((change : Change) → IsBuffered files next change → IsBuffered after following change)
    → HaveBuffers (Ready files sequence) next transactions → HaveBuffers (Ready after later) following transactions
holds_so files after sequence later {next} {following} transactions so all =
    all_so (MayHold (Ready files sequence) next) (MayHold (Ready after later) following) transactions each all
  where
    each : (transaction : Option (List Change)) → MayHold (Ready files sequence) next transaction
        → MayHold (Ready after later) following transaction
    each None may = tt
    each (Some buffer) may = all_so (IsBuffered files next) (IsBuffered after following) buffer so may

-- nothing is held while the totals are off
pub off_holds : (files : List File) (sequence next following : ℕ) (transactions : List (Option (List Change)))
    → HaveBuffers Off next transactions → HaveBuffers (Ready files sequence) following transactions
off_holds files sequence next following transactions all =
    all_so (MayHold Off next) (MayHold (Ready files sequence) following) transactions
    (λ transaction none. subst (MayHold (Ready files sequence) following) (sym none) tt) all
