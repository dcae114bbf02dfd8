-- What the calls of a file have made, once the mirror over it is at rest.
use Rattle.std.proofs.Common.{Bool, IsErrOf, List, [], ap, append_assoc, arith, drop, false, get_or, length, refl}
use Rattle.std.proofs.Common.{replicate, subst, sym, take, true, ℕ, ◌++◌, ◌+◌, ◌∙◌, ◌∷◌, ◌≡◌, ◌⊎◌}
use Rattle.std.proofs.Math.Seq.{get_or-append_seam}
use Rattle.std.proofs.lemmas.Grind.{common_steps}
use Rattle.std.proofs.lemmas.List.{take-append-drop}
use Rattle.std.specs.Prelude.{Err, Ok, OnOk, Result}
use Rattle.pos_disk.proofs.MomentLemmas.{rest_leaves}
use Rattle.pos_disk.specs.Fuse.{may_under}
use Rattle.pos_disk.specs.Kept.{from_moment, to_moment}
use Rattle.pos_disk.specs.Memory.{LeftAt, Memory, Moment, state_of, written}
use Rattle.pos_disk.specs.State.{HasNotFailed, IsAtRest, MayLeave, Watches, splice}
use Rattle.pos_file.specs.declared.file_disk.FileDisk.{FileDisk}
use Rattle.pos_mirror.specs.Continuations.{Continues, and_write, no_more}
use Rattle.pos_mirror.specs.Mirror.{Mirror, mirror_state}
use Rattle.pos_file.specs.Calls.{Call}
use Rattle.pos_image.specs.NewDisk.{KeepsRest}
use Rattle.pos_program.proofs.MirroredLemmas.{cut_left}
use Rattle.pos_program.specs.Formats.{IsFormatted, IsNotFormatted, LeavesFormatted}
use Rattle.pos_program.specs.Migrations.{IsRefusedMove, LeavesMoved}
use Rattle.pos_store.specs.Migrations.{KeepsFirstLayout}
use Rattle.pos_store.specs.MovedDisks.{AnswersMove, AreMoved, MovesAny}
use Rattle.pos_program.specs.MirroredFiles.{CutMayLeave, IsMirrored}
use Rattle.pos_program.specs.TotalsDisks.{IsNewMirror}
use Rattle.pos_program.specs.declared.file_fault.FileFault.{FileFault}
use Rattle.pos_store.specs.Standing.{Standing}
use Rattle.pos_store.specs.declared.fault.StoreFault.{StoreFault}
use Rattle.pos_store.specs.declared.fault.StoreFault.TheVariants as fault

-- nothing put over a list leaves it
nothing_put : {A : Type 0} (old : List A) (at : ℕ) → splice old at [] ≡ old
nothing_put old at = grind (arith, common_steps, take-append-drop at old)

-- a place in the range of a write is loose
loose_there : (loose : List Bool) (at : ℕ) (marks rest : List Bool)
    → get_or ((take at loose ++ true ∷ marks) ++ rest) (length (take at loose)) false ≡ true
loose_there loose at marks rest = ap (λ (all : List Bool). get_or all (length (take at loose)) false)
    (append_assoc (take at loose) (true ∷ marks) rest) ∙ get_or-append_seam (take at loose) true (marks ++ rest) false

-- a disk that is at rest after a write was asked to write nothing
module _ (memory : Memory) (at : ℕ) where
  wrote_nothing : (bytes : List ℕ) → IsAtRest (state_of (written at bytes memory)) → bytes ≡ []
  wrote_nothing [] rest = refl
  wrote_nothing (byte ∷ bytes) rest = absurd (rest (length (take at memory.present.loose))
      (loose_there memory.present.loose at (replicate (length bytes) true)
      (drop (at + length (replicate (length (byte ∷ bytes)) true)) memory.present.loose)))

  as_before : {bytes : List ℕ} → bytes ≡ [] → (written at bytes memory).present ≡ memory.present
  as_before nothing = rw (nothing, nothing_put memory.present.reading at, nothing_put memory.present.loose at) refl

-- So what the calls of a file made is at rest if the mirror is, and has the same bytes.
pub same_at_rest : {asked memory : Memory} → Continues asked memory → IsAtRest (state_of memory)
    → asked.present ≡ memory.present
same_at_rest no_more rest = refl
same_at_rest (and_write memory at bytes so_far) rest =
    let same = as_before memory at (wrote_nothing memory at bytes rest) in
    same_at_rest so_far
    (λ i loose. rest i (subst (λ (now : Moment). get_or now.loose i false ≡ true) (sym same) loose)) ∙ sym same

-- no place of a new mirror is loose
none_loose : (n i : ℕ) → ¬ (get_or (replicate n false) i false ≡ true)
none_loose n i is = grind (arith, common_steps)

module _ {F : Type 0} {calls : F → List Call} (totals after : Mirror (FileDisk F)) (new : IsNewMirror totals)
    (mirrored : IsMirrored calls after) where
  rests : IsAtRest (mirror_state totals)
  rests i loose =
      none_loose (length totals.memory.present.reading) i (subst (λ (all : List Bool). get_or all i false ≡ true)
      (ap (λ (m : Mirror (FileDisk F)). m.memory.present.loose) new) loose)

  -- a new mirror begins time
  begins : 0 ≡ (mirror_state totals).moment
  begins = sym (ap (λ (m : Mirror (FileDisk F)). length m.memory.past) new)

  -- so a power cut since the file was read leaves what a crash since then may have left of the mirror
  cut_since : (is : IsMirrored calls after) (bytes : List ℕ) → CutMayLeave is bytes
      → (mirror_state after).left_since (mirror_state totals).moment bytes
  cut_since is bytes cut = subst (λ (t : ℕ). (mirror_state after).left_since t bytes) begins (cut_left is bytes cut)

  -- what a crash leaves of the disk that the calls make, it leaves of the mirror, if that is at rest
  may_after : (is : IsMirrored calls after) → IsAtRest (mirror_state after) → (bytes : List ℕ)
      → MayLeave (state_of is.asked) bytes → MayLeave (mirror_state after) bytes
  may_after is rest bytes may = may_under (state_of after.memory) after.failures bytes (from_moment after.memory bytes
      (subst (λ (now : Moment). LeftAt now bytes) (same_at_rest is.continues rest) (to_moment is.asked bytes may)))

  rest_after : (is : IsMirrored calls after) → IsAtRest (mirror_state after) → IsAtRest (state_of is.asked)
  rest_after is rest i loose =
      rest i (subst (λ (now : Moment). get_or now.loose i false ≡ true) (same_at_rest is.continues rest) loose)

  formatted_asked : IsFormatted (mirror_state totals) (mirror_state after) → (is : IsMirrored calls after)
      → IsFormatted (mirror_state totals) (state_of is.asked)
  formatted_asked formatted is =
      let same : is.asked.present.reading ≡ after.memory.present.reading =
      ap (λ (now : Moment). now.reading) (same_at_rest is.continues formatted.at_rest) in
      record {
        unmarked = formatted.unmarked;
        at_rest = rest_after is formatted.at_rest;
        image = rw same formatted.image;
        gates = rw same formatted.gates;
      }

  module _ (rest : KeepsRest totals.memory.present.reading after.memory.present.reading) where
    -- totals were formatted
    pub leaves_formatted : IsFormatted (mirror_state totals) (mirror_state after)
        → LeavesFormatted calls totals after (Ok tt)
    leaves_formatted formatted = record {
      file = mirrored;
      answer = formatted;
      rest = rest;
      made = formatted_asked formatted;
      cut = λ is bytes cut marked. let unmarked = formatted.unmarked in absurd (cc);
    }

    -- they weren't
    pub leaves_unformatted : (why : FileFault) → IsNotFormatted (mirror_state totals) (mirror_state after) why
        → LeavesFormatted calls totals after (Err why)
    leaves_unformatted why unformatted = record {
      file = mirrored;
      answer = unformatted;
      rest = rest;
      made = λ is. tt;
      cut = λ is bytes cut marked. rest_leaves (mirror_state totals) bytes rests
          ((unformatted.kept marked).any_moment.each bytes (cut_since is bytes cut));
    }

  moved_asked : (candidates : List Standing) (outcome : Result (Unit {0}) StoreFault)
      → AnswersMove candidates (mirror_state totals) outcome (mirror_state after) → (is : IsMirrored calls after)
      → OnOk outcome (AreMoved candidates (state_of is.asked))
  moved_asked candidates (Ok u) answer is = record {
    files = answer.files;
    sequence = answer.sequence;
    found = answer.found;
    at_rest = rest_after is answer.at_rest;
    now = λ bytes may. answer.now bytes (may_after is answer.at_rest bytes may);
  }
  moved_asked candidates (Err why) answer is = tt

  -- a refused move only looked at them
  only_looked : (candidates : List Standing) (outcome : Result (Unit {0}) StoreFault)
      → AnswersMove candidates (mirror_state totals) outcome (mirror_state after) → IsRefusedMove outcome
      → Watches (mirror_state totals) (mirror_state after)
  only_looked candidates (Ok u) answer refused = absurd refused
  only_looked candidates (Err fault.Device) answer refused = absurd refused
  only_looked candidates (Err fault.AlreadyLayout2) answer refused = answer.1.0
  only_looked candidates (Err fault.Unformatted) answer refused = answer.1.0
  only_looked candidates (Err fault.Damaged) answer refused = answer.1.0
  only_looked candidates (Err fault.NoMemory) answer refused = answer.0
  only_looked candidates (Err _) answer refused = absurd answer

  -- totals were moved, or not
  pub leaves_moved : (outcome : Result (Unit {0}) StoreFault)
      → MovesAny (mirror_state totals) (mirror_state after) outcome
      → KeepsFirstLayout totals.memory.present.reading after.memory.present.reading
      → IsErrOf outcome fault.Device ⊎ HasNotFailed (mirror_state totals) (mirror_state after)
      → LeavesMoved calls totals after outcome
  leaves_moved outcome moves rest counts = record {
    file = mirrored;
    moves = moves;
    rest = rest;
    counts = counts;
    made = λ candidates leaves is. moved_asked candidates outcome (moves candidates leaves).answer is;
    cut = λ candidates leaves is bytes cut. (moves candidates leaves).any_moment.each bytes (cut_since is bytes cut);
    kept = λ candidates leaves refused is bytes cut. rest_leaves (mirror_state totals) bytes rests
        ((only_looked candidates outcome (moves candidates leaves).answer refused).any_moment.each bytes
        (cut_since is bytes cut));
  }
