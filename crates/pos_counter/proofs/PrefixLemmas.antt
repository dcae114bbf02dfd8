-- Whatever happens to the totals' files, a crash leaves a prefix of their history, also where their disk is moved to
-- layout 2.
use Rattle.pos_counter.proofs.Common.{◌++◌, BeginsWith, DirectoryFault, Err, FilesEvent, FilesFound, Group}
use Rattle.pos_counter.proofs.Common.{GroupAccepted, GroupInDoubt, History, IsOneOf, IsPrefix, IsPrefixOf, IsReady}
use Rattle.pos_counter.proofs.Common.{IsSettled, Layout, Layout1, Layout2, LeavesPrefix, LeavesPrefixInside, Limits}
use Rattle.pos_counter.proofs.Common.{List, Machine, Mode, None, NothingDone, Off, Ok, Option, PlainFile, Request}
use Rattle.pos_counter.proofs.Common.{Response, Result, Run, Some, Standing, Stands, StartsWith, TotalsPart, []}
use Rattle.pos_counter.proofs.Common.{after_groups, and_then, ap, append-nil, append_assoc, arith, cond_both, decided}
use Rattle.pos_counter.proofs.Common.{event_of, files_after, files_of, has_made, history_along, history_with, inl, inr}
use Rattle.pos_counter.proofs.Common.{is_same, limits_of, listed, moved_with, outcome, outcome_of_all, plain, refl}
use Rattle.pos_counter.proofs.Common.{rules, settled, sym, told, true, with_settled, without_doubt, ℕ, ◌∙◌, ◌∷◌, ◌≡◌}
use Rattle.pos_counter.proofs.Common.{◌⊎◌}
use Rattle.std.proofs.lemmas.Bool.Decides.{nat_tests}
use Rattle.std.proofs.lemmas.Slice.Eq.{bytes_eq-Decides}
use Rattle.std.specs.Cmp.Lexicographic.{pointwise_decides}
use Rattle.pos_counter.proofs.CrashLemmas.{Rest, settles}
use Rattle.pos_dir.specs.Files.{AreWider}
use Rattle.pos_dir.specs.declared.change.Change.{Change}

-- ---- files

-- the test of two files decides
file_decides : (file other : PlainFile)
    → (is_same file other ≡ true → file ≡ other) × (file ≡ other → is_same file other ≡ true)
file_decides file other = search (rules, bytes_eq-Decides)

-- the test of what groups make
these_files : (made : Result (List PlainFile) DirectoryFault) (found : List PlainFile) → has_made made found ≡ true
    → made ≡ Ok found
these_files (Err fault) found is = absurd cc
these_files (Ok files) found is =
    ap (λ (fs : List PlainFile). Ok fs) ((pointwise_decides file_decides files found).0 is)

are_these : {made : Result (List PlainFile) DirectoryFault} (found : List PlainFile) → made ≡ Ok found
    → has_made made found ≡ true
are_these found is = ap (λ o. has_made o found) is ∙ (pointwise_decides file_decides found found).1 refl

pub same_Ok : {files others : List PlainFile} → ◌≡◌ {A = Result (List PlainFile) DirectoryFault} (Ok files) (Ok others)
    → files ≡ others
same_Ok same = cc

-- what is made after something is made of what that made
pub made_then : (first : Result (List PlainFile) DirectoryFault)
    (follows : List PlainFile → Result (List PlainFile) DirectoryFault) (last : List PlainFile)
    → and_then first follows ≡ Ok last → (next : List PlainFile) × (first ≡ Ok next) × (follows next ≡ Ok last)
made_then first follows last made = grind arith

-- the files after groups, and then after one more
one_more : (limits : Limits) (start before : List PlainFile) (groups : List Group) (group : Group)
    → after_groups limits start groups ≡ Ok before
    → after_groups limits start (groups ++ group ∷ []) ≡ outcome_of_all limits before group
one_more limits start before [] group made = search (rules, same_Ok)
one_more limits start before (first ∷ groups) group made =
    let there = made_then (outcome_of_all limits start first) (λ next. after_groups limits next groups) before made in
    rw there.1 (one_more limits there.0 before groups group there.2)

-- ---- what the disk may stand for

-- the files before a group, with some sequence
abbrev pub IsWithout : Layout → List PlainFile → Standing → Type 0
IsWithout layout before left = (sequence : ℕ) × (left ≡ Stands layout before sequence)

-- The files after it.
pub record IsWith (layout : Layout) (before : List PlainFile) (doubt : Option Group) (left : Standing) : Type 0 where
  pub group : Group
  pub files : List PlainFile
  pub sequence : ℕ
  pub doubted : doubt ≡ Some group
  pub made : outcome_of_all (limits_of layout) before group ≡ Ok files
  pub stands : left ≡ Stands layout files sequence

-- each thing that is left is the files before a group, or those after it
abbrev pub AreAround : Layout → List PlainFile → Option Group → List Standing → Type 0
AreAround layout before doubt left = (standing : Standing) → IsOneOf left standing
    → IsWithout layout before standing ⊎ IsWith layout before doubt standing

-- ---- what happens to the files

-- A group was accepted.
pub record Accepts (group : Group) (old new : TotalsPart) : Type 0 where
  pub was : IsReady old.totals.mode
  pub is : IsReady new.totals.mode
  pub layout : new.totals.layout ≡ old.totals.layout
  pub made : outcome_of_all (limits_of old.totals.layout) (plain (files_of old.totals.mode)) group
      ≡ Ok (plain (files_of new.totals.mode))

-- The disk failed in a group.
pub record Doubts (group : Group) (old new : TotalsPart) : Type 0 where
  pub was : IsReady old.totals.mode
  pub off : new.totals.mode ≡ Off
  pub around : AreAround old.totals.layout (plain (files_of old.totals.mode)) (Some group) new.left

-- A recovery has found files.
pub record Finds (found : List PlainFile) (old new : TotalsPart) : Type 0 where
  pub sequence : ℕ
  pub candidate : IsOneOf old.left (Stands new.totals.layout found sequence)
  pub is : IsReady new.totals.mode
  pub files : plain (files_of new.totals.mode) ≡ found

-- this is what happens from the old totals to the new ones
abbrev pub Happens : TotalsPart → FilesEvent → TotalsPart → Type 0
Happens old (GroupAccepted group) new = Accepts group old new
Happens old (GroupInDoubt group) new = Doubts group old new
Happens old (FilesFound found) new = Finds found old new
Happens old NothingDone new = Rest old new

-- A history fits totals: a crash leaves the files after its settled groups, or those after the group in doubt, by its
-- layout. While the totals are ready, these are their files and their layout, none is in doubt, and a crash leaves them
-- alone.
pub record Fits (history : History) (totals : TotalsPart) : Type 0 where
  pub before : List PlainFile
  pub made : files_after history history.settled ≡ Ok before
  pub around : AreAround history.layout before history.doubt totals.left
  pub ready : IsReady totals.totals.mode → (totals.totals.layout ≡ history.layout)
      × (plain (files_of totals.totals.mode) ≡ before) × (history.doubt ≡ None)
  pub is_settled : IsSettled totals.totals totals.left

pub same_stands : {layout other : Layout} {files others : List PlainFile} {m n : ℕ}
    → Stands layout files m ≡ Stands other others n → (layout ≡ other) × (files ≡ others) × (m ≡ n)
same_stands same = (cc, cc, cc)

-- totals that are ready leave their files alone
alone : {layout : Layout} (mode : Mode) {left : List Standing} (doubt : Option Group) → IsReady mode
    → left ≡ settled layout mode left → AreAround layout (plain (files_of mode)) doubt left
alone mode doubt ready is standing one = grind arith

-- ---- steps

-- What a history keeps, whatever happens: its layout, the files that it starts with, and the settled groups.
pub record Grows (history after : History) : Type 0 where
  pub layout : after.layout ≡ history.layout
  pub start : after.start ≡ history.start
  pub settled : BeginsWith after.settled history.settled

-- it goes on by a group, or as it was
by_group : (history : History) (group : Group) → Grows history (with_settled history group)
by_group history group = record { layout = refl; start = refl; settled = (group ∷ [], refl) }

as_it_was : (history : History) (doubt : Option Group) → Grows history (record history { doubt = doubt })
as_it_was history doubt = record { layout = refl; start = refl; settled = ([], sym (append-nil history.settled)) }

decided_grows : (history : History) (doubt : Option Group) (found : List PlainFile)
    → Grows history (decided history doubt found)
decided_grows history None found = as_it_was history history.doubt
decided_grows history (Some group) found =
    cond_both (has_made (files_after history (history.settled ++ group ∷ [])) found) (with_settled history group)
    (without_doubt history) (Grows history) (λ test. by_group history group) (λ test. as_it_was history None)

pub told_grows : (history : History) (event : FilesEvent) → Grows history (told history event)
told_grows history (GroupAccepted group) = by_group history group
told_grows history (GroupInDoubt group) = as_it_was history (Some group)
told_grows history (FilesFound found) = decided_grows history history.doubt found
told_grows history NothingDone = as_it_was history history.doubt

-- nothing alters the settled groups
pub grows : (history : History) (event : FilesEvent) → BeginsWith (told history event).settled history.settled
grows history event = (told_grows history event).settled

-- totals that are ready fit the history of their files
ready_fits : {history : History} {totals : TotalsPart} → IsReady totals.totals.mode
    → IsSettled totals.totals totals.left → totals.totals.layout ≡ history.layout
    → files_after history history.settled ≡ Ok (plain (files_of totals.totals.mode)) → history.doubt ≡ None
    → Fits history totals
ready_fits is settles layout made = search (rules, alone, settles)

-- what happens keeps the history fitting
pub fits_next : {history : History} {old : TotalsPart} (event : FilesEvent) {new : TotalsPart} → Fits history old
    → Happens old event new → IsSettled new.totals new.left → Fits (told history event) new
fits_next event fits h settles =
    grind (arith, ready_fits, settles, one_more, same_stands, cond_both, these_files, are_these, told_grows)

-- a history fits totals that start with the files after its settled groups
pub fits_start : {history : History} {start : List PlainFile} {sequence : ℕ} {totals : TotalsPart}
    → files_after history history.settled ≡ Ok start → StartsWith history.layout start sequence totals
    → Fits history totals
fits_start made is = search rules

-- ---- a crash

-- where the history fits, a crash leaves a prefix of it
pub fits_leaves : {history : History} {totals : TotalsPart} → Fits history totals → LeavesPrefix history totals
fits_leaves {history} fits standing is = elim (fits.around standing is) [
  | inl w ↦ record {
    prefix = history.settled;
    first = (listed history.doubt, refl);
    holds = ([], sym (append-nil history.settled));
    files = fits.before;
    sequence = w.0;
    made = fits.made;
    stands = w.1;
  }
  | inr w ↦ record {
    prefix = history.settled ++ w.group ∷ [];
    first = (
      [],
      ap (λ doubt. history.settled ++ listed doubt) w.doubted ∙ sym (append-nil (history.settled ++ w.group ∷ [])),
    );
    holds = (w.group ∷ [], refl);
    files = w.files;
    sequence = w.sequence;
    made = one_more (limits_of history.layout) history.start fits.before history.settled w.group fits.made ∙ w.made;
    stands = w.stands;
  }
]

-- the settled groups of a history begin with those of the one before
pub begins_on : {third second : List Group} (first : List Group) → BeginsWith third second → BeginsWith second first
    → BeginsWith third first
begins_on first late early =
    (early.0 ++ late.0, late.1 ∙ ap (λ groups. groups ++ late.0) early.1 ∙ append_assoc first early.0 late.0)

-- inside a step a crash leaves a prefix of the history before or after it
pub fits_inside : (history : History) {old : TotalsPart} (event : FilesEvent) {new : TotalsPart} → Fits history old
    → Fits (told history event) new → LeavesPrefixInside history old (told history event) new
fits_inside history event fits next left is = elim is [
  | inl before ↦ inl (fits_leaves fits left before)
  | inr after ↦
      let prefix = fits_leaves next left after in
      let holds = begins_on history.settled prefix.holds (grows history event) in
      inr (search (prefix.first, prefix.made, prefix.stands, holds))
]

-- ---- a disk that is moved to layout 2

abbrev Outcome : Type 0
Outcome = Result (List PlainFile) DirectoryFault

module _ (limits wider : Limits) (are : AreWider limits wider) where
  -- a change that is applicable within limits is so within wider ones
  wider_outcome : (files : List PlainFile) (change : Change) (next : List PlainFile)
      → outcome limits files change ≡ Ok next → outcome wider files change ≡ Ok next
  wider_outcome files change next done = grind (arith, nat_tests)

  -- so is a group
  wider_group : (files : List PlainFile) (changes : List Change) (last : List PlainFile)
      → outcome_of_all limits files changes ≡ Ok last → outcome_of_all wider files changes ≡ Ok last
  wider_group files [] last done = done
  wider_group files (change ∷ changes) last done =
      let there = made_then (outcome limits files change) (λ next. outcome_of_all limits next changes) last done in
      rw (wider_outcome files change there.0 there.1) (wider_group there.0 changes last there.2)

  -- and all groups of a history
  wider_groups : (files : List PlainFile) (groups : List Group) (last : List PlainFile)
      → after_groups limits files groups ≡ Ok last → after_groups wider files groups ≡ Ok last
  wider_groups files [] last done = done
  wider_groups files (group ∷ groups) last done =
      let there = made_then (outcome_of_all limits files group) (λ next. after_groups limits next groups) last done in
      rw (wider_group files group there.0 there.1) (wider_groups there.0 groups last there.2)

-- what groups make within the limits of a layout, they make within those of layout 2
pub made_by_layout_2 : (layout : Layout) (start : List PlainFile) (groups : List Group) {files : List PlainFile}
    → after_groups (limits_of layout) start groups ≡ Ok files → after_groups (limits_of Layout2) start groups ≡ Ok files
made_by_layout_2 Layout1 start groups made = search (rules, wider_groups)
made_by_layout_2 Layout2 start groups made = made

module _ (history : History) (held : List Group) (files : List PlainFile) (sequence : ℕ)
    (is : IsPrefix history held (Stands Layout1 files sequence)) where
  -- the groups of the prefix make the same files by layout 2
  made_moved : files_after (moved_with history is.prefix) is.prefix ≡ Ok files
  made_moved = search (rules, same_stands, wider_groups)

  -- so the prefix is one of the history of the disk that was moved
  pub moved_prefix : IsPrefixOf (moved_with history is.prefix) (Stands Layout2 files 1)
  moved_prefix = search (rules, append-nil, made_moved)

  -- which fits a machine that begins over these files
  pub fits_moved : (totals : TotalsPart) → StartsWith Layout2 files 1 totals
      → Fits (moved_with history is.prefix) totals
  fits_moved totals starts = fits_start made_moved starts

-- whatever a machine runs through, the settled groups stay
pub held_along : (history : History) (held : List Group) (old : Machine) (steps : List (Request × Response))
    (new : Machine) (run : Run old steps new) → BeginsWith history.settled held
    → BeginsWith (history_along history old steps new run).settled held
held_along history held old [] new run begins = begins
held_along history held old (s ∷ steps) new run begins =
    let next = history_with history old s.0 s.1 run.0 in
    held_along next held run.0 steps new run.2 (begins_on held (grows history (event_of old s.0 s.1 run.0)) begins)
