-- What an append leaves of the records.
use Rattle.pos_log.proofs.Common.{AllByRecursion, BeginsWith, HasLength, HoldsRecords, IsShort, List, SameBut, [], ap}
use Rattle.pos_log.proofs.Common.{append-nil, arith, cases_Bool, drop, drop-cons, drop-drop, false, get_or}
use Rattle.pos_log.proofs.Common.{get_or-append-add, get_or-part, inl, inr, is_open, kept_part, length, length-append}
use Rattle.pos_log.proofs.Common.{length-part, nat_eq, nat_tests, part, part-part, record_spelling, refl, same_on}
use Rattle.pos_log.proofs.Common.{spelling, sym, take, take_at, text_behind_gate, to_be_bytes, true, w32, wider, ℕ}
use Rattle.pos_log.proofs.Common.{◌++◌, ◌+◌, ◌<◌, ◌^◌, ◌∙◌, ◌∷◌, ◌≡◌, ◌≤◌, ◌⊎◌}
use Rattle.pos_image.proofs.CurrentImageLemmas.{kept_gate}
use Rattle.std.proofs.Math.Seq.{take-add}
use Rattle.std.proofs.lemmas.Grind.{common_steps, flat_map-append}

-- a part in two
part_in_two : (at n m place : ℕ) (bytes : List ℕ) → place ≡ at + n
    → part at (n + m) bytes ≡ part at n bytes ++ part place m bytes
part_in_two at n m place bytes is = rw is
    (take-add n m (drop at bytes) ∙ ap (λ (l : List ℕ). take n (drop at bytes) ++ take m l) (drop-drop n at bytes))

-- an open gate is 0xA5
pub open_byte : (byte : ℕ) → nat_eq byte 165 ≡ true → byte ≡ 165
open_byte byte is = grind (arith, nat_tests)

-- a record stands at this place
record_here : (place : ℕ) (span group : List ℕ) → get_or span place 0 ≡ 165
    → part (place + 1) 4 span ≡ to_be_bytes w32 (length group) → part (place + 5) (length group) span ≡ group
    → place + 5 + length group ≤ length span → part place (1 + (4 + length group)) span ≡ record_spelling group
record_here place span group byte length_is group_is fits =
    let front = drop-cons span place 0 (omega arith) in
    let gate_is : part place 1 span ≡ 165 ∷ [] = rw (front, byte) in
    rw (
      part_in_two place 1 (4 + length group) (place + 1) span refl,
      part_in_two (place + 1) 4 (length group) (place + 5) span (omega arith),
      gate_is,
      length_is,
    ) (ap (λ (l : List ℕ). 165 ∷ (to_be_bytes w32 (length group) ++ l)) group_is)

-- one record more
pub spelling_more : (groups : List (List ℕ)) (group : List ℕ)
    → spelling (groups ++ group ∷ []) ≡ spelling groups ++ record_spelling group
spelling_more groups group = rw (
  flat_map-append record_spelling groups (group ∷ []),
  append-nil (record_spelling group),
)

-- and so long
pub spelling_length : (groups : List (List ℕ)) (group : List ℕ)
    → length (spelling (groups ++ group ∷ [])) ≡ length (spelling groups) + 5 + length group
spelling_length groups group =
    rw (spelling_more groups group) (omega (arith, length-append (spelling groups) (record_spelling group)))

all_more : (groups : List (List ℕ)) (group : List ℕ) → AllByRecursion IsShort groups → IsShort group
    → AllByRecursion IsShort (groups ++ group ∷ [])
all_more [] group all one = (one, tt)
all_more (first ∷ groups) group all one = (all.0, all_more groups group all.1 one)

-- a span that begins with some records begins with the one behind them too
pub begins_more : (groups : List (List ℕ)) (at n : ℕ) (span group : List ℕ) → BeginsWith groups at span
    → get_or span at 0 ≡ 165 → HasLength span at n → group ≡ part (at + 5) n span
    → BeginsWith (groups ++ group ∷ []) (at + (5 + n)) span
begins_more groups at n span group begins gate has is =
    let fits = has.fits in
    let few = has.few in
    let long : length group ≡ n = ap length is ∙ length-part (at + 5) n span (omega arith) in
    let size = spelling_length groups group in
    let end_is = begins.end_is in
    let here = record_here at span group gate (rw long has.length_is) (rw long (sym is)) (omega arith) in
    let total : at + (5 + n) ≡ at + (1 + (4 + length group)) = omega arith in
    grind (arith, all_more, take-add, spelling_more)

-- what is read up to a closed gate is all that is there
pub all_read : (groups : List (List ℕ)) (at : ℕ) (span : List ℕ) → BeginsWith groups at span → is_open span at ≡ false
    → HoldsRecords groups span
all_read groups at span begins shut = grind arith

-- what changes from the gate behind the records on, while that gate is closed, leaves the records
kept_shut : {groups : List (List ℕ)} {old new : List ℕ} {at n : ℕ} → HoldsRecords groups old → SameBut at n old new
    → length (spelling groups) ≤ at → is_open new (length (spelling groups)) ≡ false → HoldsRecords groups new
kept_shut {groups} holds same behind shut = record {
  short = holds.short;
  front = kept_part same 0 (length (spelling groups)) (omega (arith, holds.inside)) (omega arith) ∙ holds.front;
  inside = omega (arith, same.same_length, holds.inside);
  behind = shut;
}

-- what changes behind that gate leaves the records
pub kept_records : (groups : List (List ℕ)) {old new : List ℕ} {at n : ℕ} → HoldsRecords groups old
    → SameBut at n old new → length (spelling groups) < at → HoldsRecords groups new
kept_records groups holds same behind =
    kept_shut holds same (omega arith) (kept_gate same (length (spelling groups)) (omega arith) ∙ holds.behind)

-- a record behind an open gate, with a closed gate behind it
module _ (groups : List (List ℕ)) (group : List ℕ) {old mid new : List ℕ} (holds : HoldsRecords groups old) (place : ℕ)
    (place_is : place ≡ length (spelling groups)) (fits : place + 6 + length group ≤ length old)
    (few : length group < 2 ^ 32) (beside : SameBut (place + 1) (5 + length group) old mid)
    (there : part (place + 1) (5 + length group) mid ≡ text_behind_gate group) (gate : SameBut place 1 mid new) where
  long : length new ≡ length old
  long = gate.same_length ∙ beside.same_length

  all : SameBut place (6 + length group) old new
  all = same_on (wider (omega arith) (omega arith) beside) (wider (omega arith) (omega arith) gate)

  -- the length of the group, the group and a closed gate
  text : part (place + 1) (5 + length group) new ≡ text_behind_gate group
  text = kept_part gate (place + 1) (5 + length group) (omega (arith, beside.same_length)) (omega arith) ∙ there

  inner : (from m at : ℕ) → at ≡ place + 1 + from → from + m ≤ 5 + length group
      → part at m new ≡ part from m (text_behind_gate group)
  inner from m at is short = part-part (place + 1) (5 + length group) from m at new is short (omega (arith, long))
      ∙ ap (part from m) text

  next_closed : get_or new (place + (5 + length group)) 0 ≡ 0
  next_closed =
      let last : get_or (group ++ 0 ∷ []) (length group) 0 ≡ 0 = grind (arith, common_steps) in
      sym (get_or-part (place + 1) (5 + length group) new (4 + length group) (place + (5 + length group)) (omega arith)
      (omega arith)) ∙ ap (λ (l : List ℕ). get_or l (4 + length group) 0) text ∙ get_or-append-add
      (to_be_bytes w32 (length group)) (group ++ 0 ∷ []) (length group) 0 ∙ last

  pub opened_more : is_open new place ≡ true → HoldsRecords (groups ++ group ∷ []) new
  opened_more opened =
      let begins : BeginsWith groups place new = record {
        short = holds.short;
        end_is = place_is;
        front = rw place_is (kept_part all 0 (length (spelling groups)) (omega (arith, holds.inside))
            (omega (arith, place_is)) ∙ holds.front);
        inside = omega (arith, long);
      } in
      let has : HasLength new place (length group) = record {
        few = few;
        length_is = inner 0 4 (place + 1) (omega arith) (omega arith);
        fits = omega (arith, long);
      } in
      let group_is =
      inner 4 (length group) (place + 5) (omega arith) (omega arith) ∙ take_at group (0 ∷ []) (length group) refl in
      all_read _ _ new (begins_more groups place (length group) new group begins (open_byte _ opened) has
      (sym group_is)) (ap (λ (b : ℕ). nat_eq b 165) next_closed)

  -- whatever stands in the gate, the old records are there, or one more
  pub either_more : HoldsRecords groups new ⊎ HoldsRecords (groups ++ group ∷ []) new
  either_more = elim (cases_Bool (is_open new place)) [
    | inl opened ↦ inr (opened_more opened)
    | inr shut ↦ inl (kept_shut holds all (omega (arith, place_is)) (rw (← place_is) shut))
  ]
