-- Where a rule is broken, the gate that is closed for it is open.
use Rattle.std.proofs.Common.{◌≡◌, ◌≢◌, ◌+◌, ◌<◌, ◌≤◌, ◌++◌, ◌∷◌, ◌∙◌, ℕ, List, inl, inr, true, length, get_or, drop}
use Rattle.std.proofs.Common.{Bool, ap, arith, refl, sym, subst, length-append, length-take, take, nat_eq, cond}
use Rattle.std.proofs.lemmas.Bool.{cases_lt, le-ltb}
use Rattle.std.proofs.lemmas.Bool.Decides.{nat_tests}
use Rattle.std.proofs.lemmas.Grind.{flat_map-append}
use Rattle.std.proofs.lemmas.List.{get_or-append-add, get_or-take, get_or_past}
use Rattle.std.proofs.lemmas.List.Sums.{sum_by-set}
use Rattle.std.specs.Int.{to_be_bytes, w16, w32}
use Rattle.std.specs.List.{sum_by}
use Rattle.std.specs.Prelude.{flat_map, slice_set}
use Rattle.pos_dir.proofs.DirectoryLemmas.{file_reads}
use Rattle.pos_dir.proofs.FieldLemmas.{IsBytes, IsBytes-drop, IsBytes-take, u16_reads}
use Rattle.pos_dir.proofs.ItemLemmas.{items_take}
use Rattle.pos_dir.specs.Flaws.{BeginWith, HasFlaw, end_of_files}
use Rattle.pos_dir.specs.Spelling.{file_spelling}
use Rattle.pos_dir.specs.declared.file.File.{File}
use Rattle.pos_dir.specs.declared.file.Limits.{Limits}
use Rattle.pos_dir.specs.declared.flaw.Flaw.{Flaw}
use Rattle.pos_dir.specs.declared.flaw.Flaw.TheVariants as flaw
use Rattle.pos_disk.proofs.ByteLemmas.{get_or-part}
use Rattle.pos_disk.specs.State.{part}
use Rattle.pos_image.proofs.LogLemmas.{log_here}
use Rattle.pos_image.proofs.PlaceLemmas.{places}
use Rattle.pos_image.specs.Layout.{disk_size, first_of, is_open, layout_of, log_place, log_size, longest, other}
use Rattle.pos_image.specs.Layout.{length_at, slot_size, start}
unfoldable use Rattle.pos_image.specs.Layout.{body_at, layout_on}
use Rattle.pos_image.specs.Slots.{IsCurrent}
use Rattle.pos_image.specs.Standing.{NoImage, current_on, is_marked, is_tied, log_of}
unfoldable use Rattle.pos_image.specs.Standing.{image_on}
use Rattle.pos_image.specs.declared.slot.Slot.{Slot}
use Rattle.pos_image.specs.declared.slot.Slot.TheVariants.{First, Fourth, Second, Third}
use Rattle.pos_survey.specs.Damages.{Breaks, HasBadRecord, HasLongRecord, HasNoFiles, IsDamage, log_begins}
use Rattle.pos_survey.specs.declared.fault.Rule.{Rule}
use Rattle.pos_survey.specs.declared.fault.Rule.TheVariants as rule
use Rattle.pos_survey.specs.declared.fault.SurveyFault.TheVariants.{Damaged}
use Rattle.pos_report.specs.Salvage.{gate_of, slot_start}

-- a place within a slot is of that slot
in_slot : (slot : Slot) (at : ℕ) → start slot ≤ at → at < start slot + slot_size (layout_of slot)
    → slot_start at ≡ start slot
in_slot First at from to = grind (arith, nat_tests)
in_slot Second at from to = grind (arith, nat_tests)
in_slot Third at from to = grind (arith, nat_tests)
in_slot Fourth at from to = grind (arith, nat_tests)

-- bytes that hold an image, a damaged one too, have an open gate
marked : (bytes : List ℕ) → disk_size ≤ length bytes → image_on bytes ≢ NoImage → is_marked bytes ≡ true
unfolding image_on
marked bytes whole some = grind (arith, le-ltb (length bytes) disk_size whole)

-- so the slot of their current image is open
current_open : (bytes : List ℕ) → is_marked bytes ≡ true → is_open bytes (start (current_on bytes)) ≡ true
unfolding layout_on
current_open bytes is = grind arith

-- files that are read from bytes end within them
files_within : (bytes : List ℕ) (count : ℕ) (files : List File) (rest : List ℕ) → IsBytes bytes
    → BeginWith bytes count files rest → end_of_files files ≤ length bytes
files_within bytes count files rest fits begin =
    let counted = u16_reads.takes bytes count begin.text fits begin.counted in
    let front : drop 2 bytes ≡ begin.text = ap (drop 2) counted.0 in
    let parts = items_take file_reads (length files) begin.text files rest
    (subst IsBytes front (IsBytes-drop 2 bytes fits)) begin.read in
    omega (
      arith,
      ap length counted.0,
      length-append (to_be_bytes w16 count) begin.text,
      ap length parts.0,
      length-append (flat_map file_spelling files) rest,
    )

-- a flaw of a body is within it
flaw_within : (limits : Limits) (body : List ℕ) (at : ℕ) (broken : Flaw) → IsBytes body → HasFlaw limits body at broken
    → at ≤ length body
flaw_within limits body at flaw.TooManyFiles fits has = omega (arith, has.0)
flaw_within limits body at flaw.BytesLeft fits has =
    omega (arith, has.place_is, files_within body _ has.files has.rest fits has.begin)
flaw_within limits body at flaw.BytesMissing fits (inl has) = omega (arith, has.0)
flaw_within limits body at flaw.BytesMissing fits (inr has) =
    omega (arith, has.place_is, files_within body has.count has.files has.rest fits has.begin)
flaw_within limits body at other fits has =
    omega (arith, has.place_is, files_within body has.count has.files has.rest fits has.begin)

-- an open gate in a part of bytes is one of the bytes
open_in_part : (at n : ℕ) (bytes : List ℕ) (i : ℕ) → is_open (part at n bytes) i ≡ true → is_open bytes (at + i) ≡ true
open_in_part at n bytes i opened = elim (cases_lt i n) [
  | inl inside ↦ ap (λ (byte : ℕ). nat_eq byte 165) (sym (get_or-part at n bytes i (at + i) refl inside)) ∙ opened
  | inr past ↦
      let none = get_or_past (part at n bytes) i 0 (omega (arith, length-take n (drop at bytes))) in
      absurd (grind (arith, nat_tests, none))
]

-- so is one in the log behind the current image
open_in_log : {bytes body : List ℕ} {slot : Slot} {sequence : ℕ} (i : ℕ) → IsCurrent bytes slot body sequence
    → is_open (log_of bytes) i ≡ true → is_open bytes (log_begins slot + i) ≡ true
open_in_log {bytes} {slot = slot} i current opened =
    open_in_part (start slot + log_place (layout_of slot)) (log_size (layout_of slot)) bytes i
    (ap (λ (span : List ℕ). is_open span i) (sym (log_here current)) ∙ opened)

-- the gate of a record that a span has behind others is open
record_open : (span before behind : List ℕ) → take (length (before ++ 165 ∷ behind)) span ≡ before ++ 165 ∷ behind
    → is_open span (length before) ≡ true
record_open span before behind front =
    let inside : length before < length (before ++ 165 ∷ behind) = omega (arith, length-append before (165 ∷ behind)) in
    let there = get_or-take (length (before ++ 165 ∷ behind)) span (length before) 0 inside in
    let here = get_or-append-add before (165 ∷ behind) 0 0 in
    grind (arith, nat_tests, ap (λ (l : List ℕ). get_or l (length before) 0) front)

-- a body that isn't too long is within its slot
body_within : {bytes body : List ℕ} {slot : Slot} {sequence : ℕ} → IsCurrent bytes slot body sequence
    → length body ≤ longest (layout_of slot)
unfolding body_at
body_within {bytes} {slot = slot} current =
    let long = ap length current.body_is in
    omega (arith, current.fits, long, length-take (length_at bytes (start slot)) (drop (start slot + 13) bytes))

-- the gate of a slot whose body spells no files
no_files_open : {bytes : List ℕ} (at : ℕ) (why : Flaw) → IsBytes bytes → HasNoFiles bytes at why
    → is_open bytes (slot_start at) ≡ true
unfolding body_at
no_files_open {bytes} at why fits has =
    let here = places has.slot in
    let body_fits : IsBytes has.body =
    subst IsBytes has.current.body_is (IsBytes-take _ _ (IsBytes-drop (start has.slot + 13) bytes fits)) in
    let within = flaw_within _ has.body has.within why body_fits has.has in
    let short = body_within has.current in
    let is = in_slot has.slot at (omega (arith, has.place_is)) (omega (arith, has.place_is)) in
    ap (is_open bytes) is ∙ has.current.gate

-- the gate of a record that doesn't fit
long_record_open : {bytes : List ℕ} (at : ℕ) → HasLongRecord bytes at → is_open bytes at ≡ true
long_record_open {bytes} at has =
    ap (is_open bytes) has.place_is ∙ open_in_log has.within has.image.current has.long.gate

-- a record: an open gate, the length of its group, and the group
abbrev record_text : List ℕ → List ℕ
record_text group = 165 ∷ (to_be_bytes w32 (length group) ++ group)

-- the gate of a record that breaks another rule
bad_record_open : {bytes : List ℕ} (at : ℕ) (broken : Rule) → HasBadRecord bytes at broken → is_open bytes at ≡ true
bad_record_open {bytes} at broken has =
    let stops = has.stops in
    let parts = ap (flat_map record_text) stops.texts_are
    ∙ flat_map-append record_text stops.before (stops.text ∷ stops.behind) in
    let front = subst (λ (all : List ℕ). take (length all) (log_of bytes) ≡ all) parts has.held.front in
    let rest = (to_be_bytes w32 (length stops.text) ++ stops.text) ++ flat_map record_text stops.behind in
    ap (is_open bytes) stops.place_is ∙ open_in_log (length (flat_map record_text stops.before)) has.image.current
    (record_open (log_of bytes) (flat_map record_text stops.before) rest front)

-- two slots that are tied are open
tied_open : (bytes : List ℕ) (slot : Slot) → is_tied bytes slot ≡ true → is_open bytes (start (other slot)) ≡ true
tied_open bytes slot tied = grind (arith, nat_tests)

-- the first places of a slot are of that slot
slot_start_of : (slot : Slot) (n : ℕ) → n < 10 → slot_start (start slot + n) ≡ start slot
slot_start_of slot n few = let here = places slot in in_slot slot (start slot + n) (omega arith) (omega arith)

-- the gate that is closed for a damage of marked bytes
gate_open : (bytes : List ℕ) (at : ℕ) (broken : Rule) → IsBytes bytes → is_marked bytes ≡ true
    → IsDamage bytes at broken → is_open bytes (gate_of at broken) ≡ true
gate_open bytes at rule.SameSequence fits some (tied, is) =
    let slot = first_of (layout_on bytes) in
    ap (is_open bytes) (ap slot_start is ∙ slot_start_of (other slot) 1 (omega arith)) ∙ tied_open bytes slot tied
gate_open bytes at rule.LongBody fits some (long, is) =
    ap (is_open bytes) (ap slot_start is ∙ slot_start_of (current_on bytes) 9 (omega arith)) ∙ current_open bytes some
gate_open bytes at (rule.NoFiles why) fits some has = no_files_open at why fits has
gate_open bytes at rule.LongRecord fits some has = long_record_open at has
gate_open bytes at rule.NoGroup fits some has = bad_record_open at _ has
gate_open bytes at rule.EmptyGroup fits some has = bad_record_open at _ has
gate_open bytes at (rule.NotApplicable why) fits some has = bad_record_open at _ has

-- where a rule is broken, the gate that is closed for it is open
pub damaged_open : (bytes : List ℕ) (at : ℕ) (broken : Rule) → IsBytes bytes → disk_size ≤ length bytes
    → Breaks bytes (Damaged at broken) → is_open bytes (gate_of at broken) ≡ true
damaged_open bytes at broken fits whole breaks = gate_open bytes at broken fits (marked bytes whole breaks.0.0) breaks.1

-- a gate that is open is one of the bytes
pub open_within : (bytes : List ℕ) (i : ℕ) → is_open bytes i ≡ true → i < length bytes
open_within bytes i opened = elim (cases_lt i (length bytes)) [
  | inl inside ↦ inside
  | inr past ↦ absurd (grind (arith, nat_tests, get_or_past bytes i 0 past))
]

-- how many bytes read as an open gate
abbrev count_of : ℕ → ℕ
count_of byte = cond (nat_eq byte 165) 1 0

abbrev pub open_gates : List ℕ → ℕ
open_gates bytes = sum_by count_of bytes

-- once one is closed there is one less
pub closes_one : (bytes : List ℕ) (i : ℕ) → is_open bytes i ≡ true → open_gates (slice_set bytes i 0) < open_gates bytes
closes_one bytes i opened =
    let one = sum_by-set count_of bytes i 0 0 (open_within bytes i opened) in
    let gate : count_of (get_or bytes i 0) ≡ 1 = ap (λ (is : Bool). cond is 1 0) opened in
    omega (arith, one, gate)
