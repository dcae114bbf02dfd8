-- What the calls of a till's disk do, in the terms of every disk.
use Rattle.std.proofs.Common.{Bool, Err, List, Ok, Option, [], ap, arith, false, inl, inr, refl, subst, true, ℕ, ⊎_elim}
use Rattle.std.proofs.Common.{drop, get_or, length, map, option_map, replicate, sym, take, ◌++◌, ◌<◌, ◌≤◌, ◌^◌, ◌∙◌}
use Rattle.std.proofs.Common.{◌∷◌, ◌≡◌, ◌≢◌}
use Rattle.std.proofs.Math.Seq.{drop-append_seam, take-append_seam}
use Rattle.std.specs.Prelude.{IfSome, None, OnOk, Some, ◌||◌}
use Rattle.pos_disk.proofs.CallLemmas.{elapsed}
use Rattle.pos_disk.proofs.Common.{DiskState, Elapses, HasCause, LeftAt, MayLeave, Memory, Moment, Reads, Writes}
use Rattle.pos_disk.proofs.Common.{splice, state_of}
use Rattle.pos_disk.specs.Fuse.{may_under, with_failures}
use Rattle.pos_disk.specs.Kept.{to_moment}
use Rattle.pos_disk.specs.Memory.{synced, written}
use Rattle.pos_disk.specs.State.{Answer}
use Rattle.pos_disk.specs.declared.device.DiskFault.{DiskFault}
use Rattle.kijolvar.specs.Codes.{ok}
use Rattle.kijolvar.specs.Errands.{Does, HostWork, IsSync, IsWrite, WritesOldest, file_after, file_after_all}
use Rattle.kijolvar.specs.TillDisks.{AddsIfHosted, DoesIfHosted, FileFollows, GoesOnFrom, HostedDisk, IsInFile}
use Rattle.kijolvar.specs.TillDisks.{IsInStep, errands_of, fixed_of, failures_by, failures_of, hosted, hosted_state}
use Rattle.kijolvar.specs.TillDisks.{listed, loose_number}
use Rattle.kijolvar.specs.TillDisks.{DoesTold, settlement_by, settlement_with}
use Rattle.kijolvar.specs.declared.till_disk.Settlement.TheVariants.{Owed, Settled}
use Rattle.kijolvar.specs.declared.errands.Errand.{Errand}
use Rattle.kijolvar.specs.declared.errands.Errand.TheVariants.{Sync, Write}

-- time goes on under other counts of failures
time_under : {old new : DiskState} (f g : ℕ) → Elapses old new → Elapses (with_failures old f) (with_failures new g)
time_under {new} f g time = record {
  later = time.later;
  keeps = time.keeps;
  nothing_else = λ t bytes le left. ⊎_elim inl
      (λ may. inr (may_under new g bytes may)) (time.nothing_else t bytes le left);
}

-- a lost errand is a failure, and so is each later call
lost_cause : (lost : Bool) (before after : DiskState) (fault : DiskFault) → HasCause {T = Unit {0}}
    (with_failures before (failures_by lost)) (with_failures after (failures_by true)) (Err fault)
lost_cause true before after fault =
    record { later = omega arith; last = omega arith; rises = inr (omega arith); same = tt }
lost_cause false before after fault =
    record { later = omega arith; last = omega arith; rises = inl (omega arith); same = tt }

kept_cause : {failures : ℕ} (before after : DiskState) → failures < 2 ^ 64
    → HasCause {T = Unit {0}} (with_failures before failures) (with_failures after failures) (Ok tt)
kept_cause before after last = record { later = omega arith; last = last; rises = tt; same = refl }

-- a call fails exactly where its errand is lost
pub cause_of : (Is : Errand → Type 0) (old new : Option HostWork) (answer : Answer) (before after : DiskState)
    → AddsIfHosted Is old new answer
    → HasCause (with_failures before (failures_of old)) (with_failures after (failures_of new)) answer
cause_of Is None new (Ok u) before after (none, done) = rw none (kept_cause before after (omega arith))
cause_of Is None new (Err e) before after (none, done) = absurd (cc)
cause_of Is (Some old) None answer before after adds = absurd adds
cause_of Is (Some old) (Some new) (Ok u) before after (kept, (one, is, now)) =
    rw (now, kept) (kept_cause before after (omega arith))
cause_of Is (Some old) (Some new) (Err e) before after now = rw now (lost_cause old.lost before after e)

few_by : (lost : Bool) → failures_by lost < 2 ^ 64
few_by true = omega arith
few_by false = omega arith

few : (work : Option HostWork) → failures_of work < 2 ^ 64
few None = omega arith
few (Some w) = few_by w.lost

-- what holds whatever the answer holds where it is a success
any_answer : {A : Type 0} (answer : Answer) → A → OnOk answer A
any_answer (Ok u) a = a
any_answer (Err e) a = tt

-- a read asks nothing of the host
pub reads_hosted : (work : Option HostWork) (old new : Memory) {at : ℕ} {out : List ℕ} (answer : Answer)
    → answer ≡ Ok tt → Reads (state_of old) (state_of new) at out answer
    → Reads (hosted_state (hosted old work)) (hosted_state (hosted new work)) at out answer
reads_hosted work old new (Err e) done reads = absurd (cc)
reads_hosted work old new (Ok u) done reads = record {
  bytes = reads.bytes;
  reading = reads.reading;
  loose = reads.loose;
  still_loose = reads.still_loose;
  time = time_under (failures_of work) (failures_of work) reads.time;
  cause = kept_cause (state_of old) (state_of new) (few work);
}

-- a write, whatever became of its errand
pub writes_hosted : (old new : HostedDisk) {at : ℕ} {bytes : List ℕ} (said : Answer) {answer : Answer} → said ≡ Ok tt
    → Writes (state_of old.memory) (state_of new.memory) at bytes said
    → AddsIfHosted (IsWrite at bytes) old.work new.work answer
    → Writes (hosted_state old) (hosted_state new) at bytes answer
writes_hosted old new (Err e) done writes adds = absurd (cc)
writes_hosted old new {at} {bytes} (Ok u) {answer} done writes adds = record {
  written = any_answer answer writes.written;
  same_length = writes.same_length;
  elsewhere = writes.elsewhere;
  loose = writes.loose;
  reached = writes.reached;
  time = time_under (failures_of old.work) (failures_of new.work) writes.time;
  cause = cause_of (IsWrite at bytes) old.work new.work answer (state_of old.memory) (state_of new.memory) adds;
}

-- a moment of these parts
abbrev moment_of : List ℕ → List Bool → Moment
moment_of reading loose = record { reading = reading; loose = loose }

-- a disk goes on from where it is
goes_nowhere : (disk : Memory) → GoesOnFrom disk disk
goes_nowhere disk = record { later = omega arith; leaves = λ t bytes le left. left }

-- and from where it was, by its calls
pub went_on : (old new : Memory) → Elapses (state_of old) (state_of new) → GoesOnFrom old new
went_on old new time = record { later = time.later; leaves = time.keeps }

goes_further : (old mid new : Memory) → GoesOnFrom old mid → GoesOnFrom mid new → GoesOnFrom old new
goes_further old mid new first second = record {
  later = omega (arith, first.later, second.later);
  leaves = λ t bytes le left. second.leaves t bytes (omega (arith, le, first.later)) (first.leaves t bytes le left);
}

-- behind the others, an errand is done last
last_done : (errands : List Errand) (one : Errand) (file : Memory)
    → file_after_all (errands ++ one ∷ []) file ≡ file_after one (file_after_all errands file)
last_done [] one file = refl
last_done (errand ∷ errands) one file = last_done errands one (file_after errand file)

-- The file stays behind by one errand more.
module _ (Is : Errand → Type 0) (after : Memory → Memory)
    (does : (one : Errand) (file : Memory) → Is one → file_after one file ≡ after file) where
  pub in_step_on : (old new : Option HostWork) (answer : Answer) (memory next : Memory) → AddsIfHosted Is old new answer
      → (answer ≡ Ok tt → next ≡ after memory) → GoesOnFrom memory next → IsInStep (hosted memory old)
      → IsInStep (hosted next new)
  in_step_on None new answer memory next (none, done) same time is = rw none tt
  in_step_on (Some old) None answer memory next adds same time is = absurd adds
  in_step_on (Some old) (Some new) (Ok u) memory next (kept, (one, it_is, now)) same time is =
      let all : file_after_all (old.errands ++ one ∷ []) old.file ≡ next =
      last_done old.errands one old.file ∙ does one _ it_is ∙ ap after (is.same kept) ∙ sym (same refl) in
      rw now (record { same = λ none. all; goes_on = subst (GoesOnFrom _) all (goes_nowhere _) })
  in_step_on (Some old) (Some new) (Err e) memory next now same time is = rw now (record {
    same = λ none. absurd cc;
    goes_on = goes_further _ memory next is.goes_on time;
  })

-- what a write and a sync do to a file
pub written_so : (at : ℕ) (bytes : List ℕ) (one : Errand) (file : Memory) → IsWrite at bytes one
    → file_after one file ≡ written at bytes file
written_so at bytes (Write place kept) file (here, these) = rw (here, these) refl
written_so at bytes Sync file is = absurd is

pub synced_so : (one : Errand) (file : Memory) → IsSync one → file_after one file ≡ synced file
synced_so (Write place kept) file is = absurd is
synced_so Sync file is = refl

-- a lost sync leaves the disk as it is
pub stays_on : (old new : Option HostWork) {fault : DiskFault} (memory : Memory)
    → AddsIfHosted IsSync old new (Err fault) → IsInStep (hosted memory old) → IsInStep (hosted memory new)
stays_on old new memory adds is = in_step_on IsSync synced synced_so old new (Err _) memory memory adds
    (λ done. absurd cc) (goes_nowhere memory) is

-- errands that are done are calls of the file
after_one : (errand : Errand) (file : Memory) → GoesOnFrom file (file_after errand file)
after_one (Write at bytes) file =
    went_on file (written at bytes.items file) (elapsed file (written at bytes.items file).present file.settled)
after_one Sync file = went_on file (synced file) (elapsed file (synced file).present file.present.reading)

after_all : (errands : List Errand) (file : Memory) → GoesOnFrom file (file_after_all errands file)
after_all [] file = goes_nowhere file
after_all (errand ∷ errands) file =
    let next = file_after errand file in
    goes_further file next (file_after_all errands next) (after_one errand file) (after_all errands next)

after_more : (done left : List Errand) (file : Memory)
    → file_after_all (done ++ left) file ≡ file_after_all left (file_after_all done file)
after_more [] left file = refl
after_more (errand ∷ done) left file = after_more done left (file_after errand file)

-- a list of numbers tells which places are loose
loose_same : (xs ys : List Bool) → map loose_number xs ≡ map loose_number ys → xs ≡ ys
loose_same [] [] same = refl
loose_same [] (y ∷ ys) same = absurd cc
loose_same (x ∷ xs) [] same = absurd cc
loose_same (true ∷ xs) (true ∷ ys) same = ap (λ zs. true ∷ zs) (loose_same xs ys (ap (drop 1) same))
loose_same (false ∷ xs) (false ∷ ys) same = ap (λ zs. false ∷ zs) (loose_same xs ys (ap (drop 1) same))
loose_same (true ∷ xs) (false ∷ ys) same =
    let first : 1 ≡ 0 = ap (λ (l : List ℕ). get_or l 0 0) same in absurd (omega (arith, first))
loose_same (false ∷ xs) (true ∷ ys) same =
    let first : 0 ≡ 1 = ap (λ (l : List ℕ). get_or l 0 0) same in absurd (omega (arith, first))

-- and that of a file what the file is at present
present_same : (file other : Memory) → listed file ≡ listed other → file.present ≡ other.present
present_same file other same =
    let one = file.present in
    let two = other.present in
    let count : length one.reading ≡ length two.reading = ap (λ (l : List ℕ). get_or l 1 0) same in
    let rest : one.reading ++ map loose_number one.loose ≡ two.reading ++ map loose_number two.loose =
    ap (drop 2) same in
    let reading : one.reading ≡ two.reading = sym (take-append_seam one.reading (map loose_number one.loose))
    ∙ ap (λ n. take n (one.reading ++ map loose_number one.loose)) count
    ∙ ap (take (length two.reading)) rest ∙ take-append_seam two.reading (map loose_number two.loose) in
    let loose : one.loose ≡ two.loose = loose_same one.loose two.loose
    (sym (drop-append_seam one.reading (map loose_number one.loose))
    ∙ ap (λ n. drop n (one.reading ++ map loose_number one.loose)) count
    ∙ ap (drop (length two.reading)) rest ∙ drop-append_seam two.reading (map loose_number two.loose)) in
    ap (λ (r : List ℕ). moment_of r one.loose) reading ∙ ap (λ (l : List Bool). moment_of two.reading l) loose

-- the same errands leave the same of it
after_present : (errands : List Errand) (file other : Memory) → file.present ≡ other.present
    → (file_after_all errands file).present ≡ (file_after_all errands other).present
after_present [] file other same = same
after_present (Write at bytes ∷ errands) file other same =
    after_present errands (written at bytes.items file) (written at bytes.items other) (ap (λ (m : Moment).
    moment_of (splice m.reading at bytes.items) (splice m.loose at (replicate (length bytes.items) true))) same)
after_present (Sync ∷ errands) file other same = after_present errands (synced file) (synced other)
    (ap (λ (m : Moment). moment_of m.reading (replicate (length m.reading) false)) same)

-- while they are done, a crash leaves of the file what one of the disk may have left
follows_work : (before memory : Memory) (work : Option HostWork) → IsInStep (hosted memory work)
    → IfSome work (λ w. listed w.file ≡ listed before) → IfSome work (λ w. (done left : List Errand)
    → w.errands ≡ done ++ left → (bytes : List ℕ) → MayLeave (state_of (file_after_all done before)) bytes
    → (state_of memory).left_since (length before.past) bytes)
follows_work before memory None is fixed = tt
follows_work before memory (Some w) is fixed = λ done left split bytes may.
    let file = file_after_all done w.file in
    let all : file_after_all left file ≡ file_after_all w.errands w.file =
    sym (ap (λ (es : List Errand). file_after_all es w.file) split ∙ after_more done left w.file) in
    let rest = goes_further file (file_after_all left file) memory (after_all left file)
    (subst (λ (m : Memory). GoesOnFrom m memory) (sym all) is.goes_on) in
    let count : length w.file.past ≡ length before.past = ap (λ (l : List ℕ). get_or l 0 0) fixed in
    let now : length before.past ≤ length file.past = omega (arith, count, (after_all done w.file).later) in
    let here : LeftAt file.present bytes = subst (λ (m : Moment). LeftAt m bytes)
    (sym (after_present done w.file before (present_same w.file before fixed)))
    (to_moment (file_after_all done before) bytes may) in
    rest.leaves (length before.past) bytes now (inr here)

-- no errand was done meanwhile
same_file : (old new : Option HostWork) (memory : Memory)
    → option_map (λ w. listed w.file) new ≡ option_map (λ w. listed w.file) old
    → option_map (λ w. w.file) old ≡ Some memory → IfSome new (λ w. listed w.file ≡ listed memory)
same_file old None memory fixed in_file = tt
same_file None (Some w) memory fixed in_file = absurd cc
same_file (Some v) (Some w) memory fixed in_file = cc

pub file_follows : (old new : HostedDisk) → fixed_of new ≡ fixed_of old → IsInStep new → FileFollows old new
file_follows old new fixed is in_file =
    follows_work old.memory new.memory new.work is (same_file old.work new.work old.memory fixed in_file)

-- where nothing is left and nothing failed, the file is what the disk is
settled_file : (lost failed : Bool) (errands : List Errand) {file memory : Memory}
    → (lost ≡ false → file_after_all errands file ≡ memory) → settlement_by (lost || failed) errands ≡ Settled
    → Some file ≡ Some memory
settled_file true failed errands is settled = absurd (cc)
settled_file false true errands is settled = absurd (cc)
settled_file false false [] is settled = ap Some (is refl)
settled_file false false (errand ∷ errands) is settled = absurd (cc)

pub in_file : (memory : Memory) (work : Option HostWork) (failed : Bool) → IsInStep (hosted memory work)
    → settlement_with work failed ≡ Settled → IsInFile (hosted memory work)
in_file memory None failed is settled = absurd (cc)
in_file memory (Some work) failed is settled = settled_file work.lost failed work.errands is.same settled

-- a host that owes errands lost none
owed_kept : (lost failed : Bool) (errands : List Errand) → settlement_by (lost || failed) errands ≡ Owed → lost ≡ false
owed_kept true failed errands owed = absurd (cc)
owed_kept false failed errands owed = refl

-- Where none is left of them, the code says so, and else it says something else.
told_code : (errands : List Errand) (at_before at : ℕ) (before after : List ℕ) (needed_before needed : ℕ) {code : ℕ}
    (told : Bool) → WritesOldest errands at_before at before after needed_before needed code told → code ≡ ok
    → errands ≡ []
told_code [] at_before at before after needed_before needed told tells is = refl
told_code (Sync ∷ errands) at_before at before after needed_before needed told (tells, rest) is =
    absurd (omega (arith, tells.0, is))
told_code (Write place bytes ∷ errands) at_before at before after needed_before needed told (tells, rest) is =
    absurd (⊎_elim (λ fits. omega (arith, fits.1, is)) (λ long. omega (arith, long.1, is)) tells.1)

-- a file whose errands are all done is what the disk is
all_done : (memory : Memory) (work : Option HostWork) → IsInStep (hosted memory work) → errands_of work ≡ []
    → IfSome work (λ w. w.lost ≡ false) → work ≢ None → IsInFile (hosted memory work)
all_done memory None is none kept some = absurd (some refl)
all_done memory (Some work) is none kept some =
    ap Some (subst (λ errands. file_after_all errands work.file ≡ memory) none (is.same kept))

-- what is lost stays so while errands are done
kept_on : (old new : HostWork) (one : Option Errand) → Does old new one → old.lost ≡ false → new.lost ≡ false
kept_on old new None (none, same) kept = rw same kept
kept_on old new (Some one) (first, same) kept = ap (λ (w : HostWork). w.lost) same ∙ kept

owed_work : (work : Option HostWork) (failed : Bool) → settlement_with work failed ≡ Owed
    → IfSome work (λ w. w.lost ≡ false) × (work ≢ None)
owed_work None failed owed = absurd (cc)
owed_work (Some work) failed owed = (owed_kept work.lost failed work.errands owed, λ is. cc)

still_hosted : (old new : Option HostWork) (failed : Bool) (one : Option Errand) → settlement_with old failed ≡ Owed
    → DoesIfHosted old new one → IfSome new (λ w. w.lost ≡ false) × (new ≢ None)
still_hosted None new failed one owed does = absurd (cc)
still_hosted (Some old) None failed one owed does = absurd does
still_hosted (Some old) (Some new) failed one owed does =
    (kept_on old new one does (owed_kept old.lost failed old.errands owed), λ is. cc)

still_owed : (told : Bool) (old new : HostedDisk) (failed : Bool) → settlement_with old.work failed ≡ Owed
    → DoesTold told old new → IfSome new.work (λ w. w.lost ≡ false) × (new.work ≢ None)
still_owed true old new failed owed (one, does) = still_hosted old.work new.work failed one owed does.does
still_owed false old new failed owed same = rw same (owed_work old.work failed owed)

-- where the host is told that nothing is left, its file is what the disk is
pub told_in_file : (told : Bool) (old new : HostedDisk) (failed : Bool) → settlement_with old.work failed ≡ Owed
    → DoesTold told old new → IsInStep new
    → (at_before at : ℕ) (before after : List ℕ) (needed_before needed : ℕ) {code : ℕ} (now : Bool)
    → WritesOldest (errands_of new.work) at_before at before after needed_before needed code now → code ≡ ok
    → IsInFile new
told_in_file told old new failed owed does is at_before at before after needed_before needed now tells fine =
    let still = still_owed told old new failed owed does in
    all_done new.memory new.work is (told_code (errands_of new.work) at_before at before after needed_before needed now
    tells fine) still.0 still.1
