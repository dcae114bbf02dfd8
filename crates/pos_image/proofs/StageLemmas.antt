-- What the steps of a change leave.
use Rattle.pos_image.proofs.Common.{DiskFault, DiskState, Err, HasFields, InRange, LeavesOnly, List, MayLeave, Ok, OnOk}
use Rattle.pos_image.proofs.Common.{Result, SameBut, Slot, SameAside, StagesAside, Syncs, Writes, [], ap, arith}
use Rattle.pos_image.proofs.Common.{big_bytes, false, if◌then◌else◌, is_open, kept_part, layout_of, length, log_place}
use Rattle.pos_image.proofs.Common.{longest, part, part-splice, slot_size, splice, spliced_same, start, ℕ, ◌++◌, ◌+◌}
use Rattle.pos_image.proofs.Common.{◌-◌, ◌<◌, ◌^◌, ◌∙◌, ◌∷◌, ◌≡◌, ◌≤◌, ◌⊎◌}
use Rattle.pos_image.proofs.FieldLemmas.{fields}
use Rattle.pos_image.proofs.PlaceLemmas.{places}

-- the fields of a slot after its head, its body and the first gate of its log were written
pub fields_written : (old head body : List ℕ) (slot : Slot) (sequence : ℕ) → 327680 ≤ length old
    → length body ≤ longest (layout_of slot) → sequence < 2 ^ 64
    → head ≡ big_bytes 8 sequence ++ big_bytes 4 (length body)
    → HasFields (splice (splice (splice old (start slot + 1) head) (start slot + 13) body)
    (start slot + log_place (layout_of slot)) (0 ∷ [])) (start slot) sequence body
fields_written old head body slot sequence whole short small head_is =
    let here = places slot in
    let at = start slot in
    let first = splice old (at + 1) head in
    let second = splice first (at + 13) body in
    let long : length head ≡ 12 = ap length head_is in
    let one = spliced_same old head (at + 1) (omega arith) in
    let two = spliced_same first body (at + 13) (omega arith) in
    let three = spliced_same second (0 ∷ []) (at + log_place (layout_of slot)) (omega arith) in
    let head_there : part (at + 1) 12 first ≡ head = rw (← long) (part-splice old head (at + 1) (omega arith)) in
    fields _ body at sequence (omega arith) (omega arith) small (kept_part three (at + 1) 12 (omega arith) (omega arith)
    ∙ kept_part two (at + 1) 12 (omega arith) (omega arith) ∙ head_there ∙ head_is)
    (kept_part three (at + 13) (length body) (omega arith) (omega arith) ∙ part-splice first body (at + 13)
    (omega arith))

-- a fact holds where a call succeeded
pub where_ok : {T E : Type 0} (r : Result T E) (P : Type 0) → P → OnOk r P
where_ok (Ok x) P holds = holds
where_ok (Err e) P holds = tt

-- a fact follows from another where a call succeeded
pub so_ok : {T E : Type 0} (r : Result T E) (P Q : Type 0) → (P → Q) → OnOk r P → OnOk r Q
so_ok (Ok x) P Q to holds = to holds
so_ok (Err e) P Q to holds = tt

-- while the gate of a slot is closed, which wasn't loose
pub closing_stages : (slot : Slot) (loose : ℕ → Type 0) (old c : List ℕ) → ¬ (loose (start slot))
    → SameAside loose (start slot) (if is_open old (start slot) then 1 else 0) old c → StagesAside loose slot old c
closing_stages slot loose old c settled same = grind (arith, places slot)

-- and while an image is written behind it
pub writing_stages : (slot : Slot) (loose still : ℕ → Type 0) (old mid c : List ℕ) → ¬ (loose (start slot))
    → ((i : ℕ) → still i → loose i) → SameBut (start slot) 1 old mid → is_open mid (start slot) ≡ false
    → SameAside still (start slot + 1) (slot_size (layout_of slot) - 1) mid c → StagesAside loose slot old c
writing_stages slot loose still old mid c settled within first shut second = grind (arith, places slot)

-- Disk calls so far wrote within one range alone, and a crash at any moment of them leaves the rest, beside what was
-- loose.
pub record IsRun (at n : ℕ) (old new : DiskState) : Type 0 where
  pub same : SameBut at n old.reading new.reading
  pub loose : (i : ℕ) → new.loose i → old.loose i ⊎ InRange at n i
  pub moments : LeavesOnly old new (SameAside old.loose at n old.reading)

pub run_start : {at n : ℕ} {old : DiskState} → ((c : List ℕ) → old.left_since old.moment c → MayLeave old c)
    → IsRun at n old old
run_start {old} only = grind arith

pub run_write : {at n place : ℕ} {old mid new : DiskState} {result : Result (Unit {0}) DiskFault} {bytes : List ℕ}
    → at ≤ place → place + length bytes ≤ at + n → Writes mid new place bytes result → IsRun at n old mid
    → IsRun at n old new
run_write {result} low high writes run = grind arith

pub run_sync : {at n : ℕ} {old mid new : DiskState} {result : Result (Unit {0}) DiskFault} → Syncs mid new result
    → IsRun at n old mid → IsRun at n old new
run_sync {result} syncs run = grind arith
