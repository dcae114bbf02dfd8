-- Each call of a disk in a file goes on with the course of its file.
use Rattle.pos_file.proofs.Common.{Bool, List, None, Option, Some, [], append_assoc, ap, cond, false, length, refl}
use Rattle.pos_file.proofs.Common.{subst, sym, true, ℕ, ◌++◌, ◌∙◌, ◌∷◌, ◌≡◌}
use Rattle.std.specs.Bool.{MatchBool}
use Rattle.pos_disk.specs.Memory.{Memory, synced, written}
use Rattle.pos_disk.specs.State.{Answer, part}
use Rattle.pos_disk.specs.Unkept.{is_fault}
use Rattle.pos_file.specs.Answers.{fault_unless, synced_of}
use Rattle.pos_file.specs.Calls.{Call, is_whole, read_call, sync_call, write_call}
use Rattle.pos_file.specs.Courses.{CallMakes, PutsDown, Shows}
use Rattle.pos_file.specs.Disks.{Asks, FileReads, FileSyncs, FileWrites}
use Rattle.pos_file.specs.Follows.{Follows}
use Rattle.pos_file.specs.declared.file_disk.FileDisk.{FileDisk}
use Rattle.pos_file.proofs.CourseLemmas.{joined}

-- what is known of a call of a disk that has not failed
asked : (A B : Type 0) (failed : Bool) → failed ≡ false → MatchBool failed A B → B
asked A B false sound is = is
asked A B true sound is = absurd cc

no_fault : (done : Bool) → done ≡ true → is_fault (fault_unless done) ≡ false
no_fault true is = refl
no_fault false is = cc

puts : (whole : Bool) (at : ℕ) (bytes put : List ℕ) (now : Memory) → length put ≡ length bytes
    → (whole ≡ true → put ≡ bytes) → PutsDown whole at bytes now (written at put now)
puts true at bytes put now fits exact = ap (λ (all : List ℕ). written at all now) (exact refl)
puts false at bytes put now fits exact = (put, fits, refl)

shows : (whole : Bool) (at : ℕ) (bytes : List ℕ) (now : Memory)
    → (whole ≡ true → bytes ≡ part at (length bytes) now.present.reading) → Shows whole at bytes now
shows true at bytes now exact = exact refl
shows false at bytes now exact = tt

settles : (done : Option ℕ) (now : Memory)
    → CallMakes (sync_call done) now (cond (is_fault (synced_of done)) now (synced now))
settles (Some n) now = refl
settles None now = refl

module _ {F : Type 0} (calls : F → List Call) (before : List Call) (start now : Memory) where
  -- one call more
  one_more : (old new : F) (call : Call) (next : Memory) → Follows calls before start old now
      → Asks calls old new (call ∷ []) → CallMakes call now next → Follows calls before start new next
  one_more old new call next follows asks makes = record {
    since = follows.since ++ call ∷ [];
    asked = asks ∙ ap (λ (all : List Call). all ++ call ∷ []) follows.asked
        ∙ append_assoc before follows.since (call ∷ []);
    course = joined follows.since (call ∷ []) start now next follows.course (next, makes, refl);
  }

  module _ (old new : FileDisk F) (follows : Follows calls before start old.file now) (sound : old.has_failed ≡ false)
      (answer : Answer) where
    pub read_follows : (at : ℕ) (was out : List ℕ) → FileReads calls old new at was out answer
        → (is_fault answer ≡ false → out ≡ part at (length out) now.present.reading)
        → Follows calls before start new.file now
    read_follows at was out reads exact =
        let (moved, asks, same, is) = asked _ _ old.has_failed sound reads in
        let whole = is_whole (length out) moved in
        one_more old.file new.file (read_call at out moved) now follows asks
        (shows whole at out now (λ all. exact (ap is_fault is ∙ no_fault whole all)), refl)

    pub write_follows : (at : ℕ) (bytes put : List ℕ) → FileWrites calls old new at bytes answer
        → length put ≡ length bytes → (is_fault answer ≡ false → put ≡ bytes)
        → Follows calls before start new.file (written at put now)
    write_follows at bytes put writes fits exact =
        let (moved, asks, same, is) = asked _ _ old.has_failed sound writes in
        let whole = is_whole (length bytes) moved in
        one_more old.file new.file (write_call at bytes moved) (written at put now) follows asks
        (puts whole at bytes put now fits (λ all. exact (ap is_fault is ∙ no_fault whole all)))

    pub sync_follows : FileSyncs calls old new answer
        → Follows calls before start new.file (cond (is_fault answer) now (synced now))
    sync_follows syncs =
        let (done, asks, same, is) = asked _ _ old.has_failed sound syncs in
        let next = cond (is_fault answer) now (synced now) in
        one_more old.file new.file (sync_call done) next follows asks
        (subst (λ (a : Answer). CallMakes (sync_call done) now (cond (is_fault a) now (synced now))) (sym is)
        (settles done now))
