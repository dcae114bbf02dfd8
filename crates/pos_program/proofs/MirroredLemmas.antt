-- What the file below a mirror was asked makes the disk that the mirror shows.
use Rattle.std.proofs.Common.{Bool, List, Option, [], ap, append-nil, arith, false, length, refl, subst, sym, true}
use Rattle.std.proofs.Common.{true≢false, ℕ, Err, None, Ok, Some, append_assoc, ◌++◌, ◌==◌, ◌∙◌, ◌∷◌, ◌≡◌}
use Rattle.std.proofs.lemmas.Bool.Decides.{nat_tests}
use Rattle.std.proofs.Math.Seq.{take-length}
use Rattle.std.specs.Bool.{MatchBool}
use Rattle.pos_disk.proofs.ByteLemmas.{part-splice}
use Rattle.pos_disk.specs.Memory.{Memory, fresh, synced, written}
use Rattle.pos_disk.specs.State.{Answer}
use Rattle.pos_disk.specs.Unkept.{is_fault}
use Rattle.pos_disk.specs.declared.device.Disk.{Ghosts}
use Rattle.pos_file.proofs.CourseLemmas.{left}
use Rattle.pos_file.proofs.FollowsLemmas.{read_follows, sync_follows, write_follows}
use Rattle.pos_file.specs.Answers.{answer_of, fault_unless}
use Rattle.pos_file.specs.Calls.{Call, read_call, sync_call, write_call}
use Rattle.pos_file.specs.Disks.{FileReads, FileSyncs, FileWrites}
use Rattle.pos_file.specs.Follows.{Follows}
use Rattle.pos_file.specs.declared.file_disk.FileDisk.{FileDisk}
use Rattle.pos_mirror.proofs.ContinuationLemmas.{left_within}
use Rattle.pos_mirror.specs.Continuations.{Continues, and_write, no_more}
use Rattle.pos_mirror.specs.Mirror.{Makes, Mirror, begun, found, ignored, mirror_state, settled, unread, unsettled}
use Rattle.pos_mirror.specs.Mirror.{wrote}
use Rattle.pos_program.specs.MirroredFiles.{CutMayLeave, HasRead, IsMirrored}

-- what is known of a disk that has not failed
pub unfailed : (A B : Type 0) (failed : Bool) → failed ≡ false → MatchBool failed A B → B
unfailed A B false sound is = is
unfailed A B true sound is = absurd (true≢false sound)

-- a disk that did what it was asked has not failed
sound_of : (A B : Type 0) (failed : Bool) → (A → false ≡ true) → MatchBool failed A B → failed ≡ false
sound_of A B false never is = refl
sound_of A B true never is = absurd (true≢false (sym (never is)))

-- a read that is answered as done gave all its bytes
is_done : (done : Bool) → Ok tt ≡ fault_unless done → done ≡ true
is_done true is = refl
is_done false is = cc

pub all_moved : {size : ℕ} (moved : Option ℕ) → Ok tt ≡ answer_of size moved → moved ≡ Some size
all_moved None is = absurd (true≢false (sym (is_done false is)))
all_moved {size} (Some n) is =
    let same : (n == size) ≡ true = is_done (n == size) is in
    ap Some (grind (arith, nat_tests))

-- one call more stands behind that read
read_before : (before : List Call) (bytes : List ℕ) {old new : List Call} (call : Call) → HasRead before bytes old
    → new ≡ old ++ call ∷ [] → HasRead before bytes new
read_before before bytes call (more, is) asks = (
  more ++ call ∷ [],
  asks ∙ ap (λ (all : List Call). all ++ call ∷ []) is
      ∙ append_assoc before (read_call 0 bytes (Some (length bytes)) ∷ more) (call ∷ []),
)

-- What is known of a disk in a file, by the calls that make what the mirror over it shows.
record FileMakes {F : Type 0} (calls : F → List Call) (before : List Call) (below : FileDisk F) (memory : Memory)
    (lost : Bool) : Type 0 where
  bytes : List ℕ
  read : HasRead before bytes (calls below.file)
  asked : Memory
  follows : Follows calls before (fresh bytes) below.file asked
  same : lost ≡ false → memory ≡ asked
  continues : Continues asked memory
  sound : lost ≡ false → below.has_failed ≡ false

module _ {F : Type 0} (calls : F → List Call) (bound : Ghosts (FileDisk F))
    (reads : (old new : FileDisk F) (at : ℕ) (was out : List ℕ) (answer : Answer)
    → bound.own_read old new at was out answer → FileReads calls old new at was out answer)
    (writes : (old new : FileDisk F) (at : ℕ) (bytes : List ℕ) (answer : Answer)
    → bound.own_write old new at bytes answer → FileWrites calls old new at bytes answer)
    (syncs : (old new : FileDisk F) (answer : Answer) → bound.own_sync old new answer → FileSyncs calls old new answer)
    (first : FileDisk F) where
  abbrev before : List Call
  before = calls first.file

  -- the calls of the file make this very memory
  here : (bytes : List ℕ) (below : FileDisk F) (memory : Memory) (lost : Bool) → HasRead before bytes (calls below.file)
      → Follows calls before (fresh bytes) below.file memory → (lost ≡ false → below.has_failed ≡ false)
      → FileMakes calls before below memory lost
  here bytes below memory lost read follows sound = record {
    bytes = bytes;
    read = read;
    asked = memory;
    follows = follows;
    same = λ present. refl;
    continues = no_more;
    sound = sound;
  }

  -- the read with which the mirror began is still there after a call of a disk that has not failed
  read_after : (b : List ℕ) (old new : FileDisk F) (at : ℕ) (was out : List ℕ) (answer : Answer)
      → old.has_failed ≡ false → HasRead before b (calls old.file) → bound.own_read old new at was out answer
      → HasRead before b (calls new.file)
  read_after b old new at was out answer sound read own =
      let (moved, asks, same, is) = unfailed _ _ old.has_failed sound (reads old new at was out answer own) in
      read_before before b (read_call at out moved) read asks

  written_after : (b : List ℕ) (old new : FileDisk F) (at : ℕ) (bytes : List ℕ) (answer : Answer)
      → old.has_failed ≡ false → HasRead before b (calls old.file) → bound.own_write old new at bytes answer
      → HasRead before b (calls new.file)
  written_after b old new at bytes answer sound read own =
      let (moved, asks, same, is) = unfailed _ _ old.has_failed sound (writes old new at bytes answer own) in
      read_before before b (write_call at bytes moved) read asks

  synced_after : (b : List ℕ) (old new : FileDisk F) (answer : Answer) → old.has_failed ≡ false
      → HasRead before b (calls old.file) → bound.own_sync old new answer → HasRead before b (calls new.file)
  synced_after b old new answer sound read own =
      let (done, asks, same, is) = unfailed _ _ old.has_failed sound (syncs old new answer own) in
      read_before before b (sync_call done) read asks

  -- a call that moves bytes leaves a disk as sound as it was
  still : (old new : FileDisk F) → old.has_failed ≡ false → new ≡ record old { file = new.file }
      → new.has_failed ≡ false
  still old new sound same = ap (λ (disk : FileDisk F). disk.has_failed) same ∙ sound

  -- before a call of a mirror that isn't lost
  at_memory : (below : FileDisk F) (memory : Memory) (so_far : FileMakes calls before below memory false)
      → Follows calls before (fresh so_far.bytes) below.file memory
  at_memory below memory so_far = subst (λ (m : Memory). Follows calls before (fresh so_far.bytes) below.file m)
      (sym (so_far.same refl)) so_far.follows

  after_write : (old new : FileDisk F) (memory : Memory) (at : ℕ) (bytes put : List ℕ) (answer : Answer)
      (so_far : FileMakes calls before old memory false) → bound.own_write old new at bytes answer
      → length put ≡ length bytes → (is_fault answer ≡ false → put ≡ bytes)
      → Follows calls before (fresh so_far.bytes) new.file (written at put memory) × (new.has_failed ≡ false)
  after_write old new memory at bytes put answer so_far own long exact =
      let asks = writes old new at bytes answer own in let sound = so_far.sound refl in (
        write_follows calls before (fresh so_far.bytes) memory old new
            (at_memory old memory so_far) sound answer at bytes put asks long exact,
        still old new sound (unfailed _ _ old.has_failed sound asks).2,
      )

  file_makes : (below : FileDisk F) (memory : Memory) (lost : Bool) → Makes bound first below memory lost
      → FileMakes calls before below memory lost
  file_makes _ _ _ (begun below was bytes read) =
      let asks = reads first below 0 was bytes (Ok tt) read in
      let sound = sound_of _ _ first.has_failed (λ nothing. let (same, _) = nothing in ap is_fault same.0) asks in
      let start : Follows calls before (fresh bytes) first.file (fresh bytes) =
      record { since = []; asked = sym (append-nil before); course = refl } in
      let (moved, asked, same, is) = unfailed _ _ first.has_failed sound asks in
      let all = all_moved moved is in
      here bytes below (fresh bytes) false ([], asked ∙ ap (λ (n : Option ℕ). before ++ read_call 0 bytes n ∷ []) all)
      (read_follows calls before (fresh bytes) (fresh bytes) first below start sound (Ok tt) 0 was bytes asks
      (λ done. sym (take-length bytes)))
      (λ present. still first below sound (unfailed _ _ first.has_failed sound asks).2)
  file_makes _ _ _ (wrote old new memory at bytes fits so_far own) =
      let past = file_makes old memory false so_far in
      let next = after_write old new memory at bytes bytes (Ok tt) past own refl (λ done. refl) in
      here past.bytes new (written at bytes memory) false
      (written_after past.bytes old new at bytes (Ok tt) (past.sound refl) past.read own) next.0
      (λ present. next.1)
  file_makes _ _ _ (found old mid new memory at bytes was put fits long so_far own read) =
      let past = file_makes old memory false so_far in
      let next =
      after_write old mid memory at bytes put (Err record {}) past own long (λ done. absurd (true≢false done)) in
      let asks = reads mid new at was put (Ok tt) read in
      here past.bytes new (written at put memory) false (read_after past.bytes mid new at was put (Ok tt) next.1
      (written_after past.bytes old mid at bytes (Err record {}) (past.sound refl) past.read own) read)
      (read_follows calls before (fresh past.bytes) (written at put memory) mid new next.0 next.1 (Ok tt) at was put
      asks
      (λ done. sym (part-splice memory.present.reading put at (rw long fits))))
      (λ present. still mid new next.1 (unfailed _ _ mid.has_failed next.1 asks).2)
  file_makes _ _ _ (unread old mid new memory at bytes was put fits long so_far own read) =
      let past = file_makes old memory false so_far in
      let next =
      after_write old mid memory at bytes put (Err record {}) past own long (λ done. absurd (true≢false done)) in
      let asks = reads mid new at was put (Err record {}) read in
      here past.bytes new (written at put memory) true (read_after past.bytes mid new at was put (Err record {}) next.1
      (written_after past.bytes old mid at bytes (Err record {}) (past.sound refl) past.read own) read)
      (read_follows calls before (fresh past.bytes) (written at put memory) mid new next.0 next.1 (Err record {}) at was
      put asks
      (λ done. absurd (true≢false done)))
      (λ present. absurd (true≢false present))
  file_makes _ _ _ (settled old new memory so_far own) =
      let past = file_makes old memory false so_far in let sound = past.sound refl in let asks =
      syncs old new (Ok tt) own in
      here past.bytes new (synced memory) false (synced_after past.bytes old new (Ok tt) sound past.read own)
      (sync_follows calls before (fresh past.bytes) memory old new (at_memory old memory past) sound (Ok tt) asks)
      (λ present. ap (λ (disk : FileDisk F). disk.has_failed) (unfailed _ _ old.has_failed sound asks).2)
  file_makes _ _ _ (unsettled old new memory so_far own) =
      let past = file_makes old memory false so_far in let asks = syncs old new (Err record {}) own in
      here past.bytes new memory true (synced_after past.bytes old new (Err record {}) (past.sound refl) past.read own)
      (sync_follows calls before (fresh past.bytes) memory old new (at_memory old memory past) (past.sound refl)
      (Err record {}) asks)
      (λ present. absurd (true≢false present))
  file_makes _ _ _ (ignored below memory at bytes fits so_far) =
      let past = file_makes below memory true so_far in record {
        bytes = past.bytes;
        read = past.read;
        asked = past.asked;
        follows = past.follows;
        same = λ present. absurd (true≢false present);
        continues = and_write memory at bytes past.continues;
        sound = λ present. absurd (true≢false present);
      }

  pub is_mirrored : (mirror : Mirror (FileDisk F)) → Makes bound first mirror.below mirror.memory mirror.lost
      → IsMirrored calls mirror
  is_mirrored mirror makes =
      let has = file_makes mirror.below mirror.memory mirror.lost makes in record {
        before = before;
        bytes = has.bytes;
        read = has.read;
        asked = has.asked;
        follows = has.follows;
        same = has.same;
        continues = has.continues;
      }

-- what a power cut leaves of the file, a crash may have left of the mirror
pub cut_left : {F : Type 0} {calls : F → List Call} {mirror : Mirror (FileDisk F)} (is : IsMirrored calls mirror)
    (bytes : List ℕ) → CutMayLeave is bytes → (mirror_state mirror).left_since 0 bytes
cut_left {mirror} is bytes cut = (left_within is.asked mirror.memory is.continues 0 bytes (omega arith)
    (left is.follows.since (fresh is.bytes) is.asked bytes cut)).1
