-- What calls come to: they leave a cursor at a place of its display, and want memory only where they may.
use Rattle.pos_counter.proofs.Common.{◌++◌, ◌<◌, ◌==◌, AllByRecursion, Bool, Call, Category, ControlUpdate, Changes}
use Rattle.pos_counter.proofs.Common.{ClearText, Control, Cursor, Action, Display, DisplayText, DisplayTextAt, Gives}
use Rattle.pos_counter.proofs.Common.{IfSome, IsInRange, IsPlaceOn, Kind, List, None, Option, Place, Property, Queues}
use Rattle.pos_counter.proofs.Common.{Refused, Row, ScrollText, Some, Strip, Value, [], and_from, arith, attribute_of}
use Rattle.pos_counter.proofs.Common.{cond, cond_both, cursor_after, device_action, device_rows, direction_of, false}
use Rattle.pos_counter.proofs.Common.{fed, first_refusal, is_cursor_place, is_index, is_up_to, nat_abs, not, option_map}
use Rattle.pos_counter.proofs.Common.{origin, place_left, refl, returned, rules, same_Some, serves, subst, suc, takes}
use Rattle.pos_counter.proofs.Common.{true, with_run, zero, with_text, ℕ, ℤ, ◌∷◌, ◌≡◌, ◌≤◌, ⊤}
use Rattle.std.proofs.lemmas.Bool.Decides.{nat_tests}
use Rattle.std.proofs.lemmas.Nat.{mod_below}
use Rattle.std.specs.Prelude.{drop}
use Rattle.pos_display.specs.DisplayCalls.{display_action, display_rows, shows}
use Rattle.pos_service.specs.declared.action.ControlUpdate.TheVariants as change
use Rattle.pos_service.specs.declared.display_text.Attribute.{Attribute}

-- ---- tables of which no row applies

abbrev pub NoneApplies : List Row → Type 0
NoneApplies rows = AllByRecursion (λ (row : Row). row.applies ≡ false) rows

-- where a table refuses nothing, no row applies
pub none_applies : (rows : List Row) → first_refusal rows ≡ None → NoneApplies rows
none_applies [] none = tt
none_applies (row ∷ rows) none = (elim row.applies as
    (λ b. cond b (Some (Refused row.code row.extended)) (first_refusal rows) ≡ None → (b ≡ false) × NoneApplies rows) [
      | true ↦ λ same. cc
      | false ↦ λ same. (refl, none_applies rows same)
    ]) none

-- nor does one of those behind the first rows
pub none_dropped : (count : ℕ) (rows : List Row) → NoneApplies rows → NoneApplies (drop count rows)
none_dropped zero rows none = none
none_dropped (suc count) [] none = tt
none_dropped (suc count) (row ∷ rows) none = none_dropped count rows none.1

pub unless_not : (b : Bool) → not b ≡ false → b ≡ true
unless_not true is = refl
unless_not false is = cc

-- ---- places

-- a place of so many rows and columns
abbrev pub IsPlace : ℕ → ℕ → Place → Type 0
IsPlace rows columns place = is_cursor_place rows columns place ≡ true

pub with_row : (rows columns : ℕ) (place : Place) (n : ℤ) → is_index rows n ≡ true → IsPlace rows columns place
    → IsPlace rows columns (record place { row = nat_abs n })
with_row rows columns place n index is = grind arith

pub with_column : (rows columns : ℕ) (place : Place) (n : ℤ) → is_up_to columns n ≡ true → IsPlace rows columns place
    → IsPlace rows columns (record place { column = nat_abs n })
with_column rows columns place n count is = grind arith

-- ---- properties

-- a property that may be set leaves the cursor at a place
pub place_set : (at : Option Kind) (c : Cursor) (p : Property) (v : Value) → takes at p v ≡ true → IsPlaceOn at c.place
    → IsPlaceOn at (cursor_after c p v).place
place_set at c p v may is = grind (arith, with_row, with_column)

pub first_place : {rows : ℕ} (columns : ℕ) → 1 ≤ rows → IsPlace rows columns origin
first_place columns some = grind (arith, nat_tests)

-- the first place is one of each display
pub place_opened : (at : Option Kind) → IfSome at IsInRange → IsPlaceOn at origin
place_opened at range = grind (arith, first_place)

-- ---- texts

run_column : {columns : ℕ} (run : List ℕ) (strip : Strip) → 0 < columns → strip.place.column ≤ columns
    → (with_run columns run strip).place.column ≤ columns
run_column run strip some le = grind (arith, mod_below)

-- a text leaves the place on the strip at most one right of the last column
text_column : {columns : ℕ} (run bytes : List ℕ) (strip : Strip) → 0 < columns → strip.place.column ≤ columns
    → (with_text columns run bytes strip).place.column ≤ columns
text_column run [] strip some le = run_column run strip some le
text_column {columns} run (b ∷ bytes) strip some le =
    let within = λ (s : Strip). s.place.column ≤ columns in
    cond_both (b == 10) _ _ within
    (λ feeds. text_column [] bytes (fed (with_run columns run strip)) some (omega arith))
    (λ other. cond_both (b == 13) _ _ within
    (λ returns. text_column [] bytes (returned (with_run columns run strip)) some (omega arith))
    (λ plain. text_column (run ++ b ∷ []) bytes strip some le))

-- a text leaves the cursor at a place
pub text_place : {rows columns : ℕ} (update : Bool) (start : Place) (bytes : List ℕ) → 0 < rows → 0 < columns
    → IsPlace rows columns start → IsPlace rows columns (place_left rows columns update start bytes)
text_place false start bytes tall wide is = is
text_place true start bytes tall wide is = grind (arith, nat_tests, and_from, text_column)

-- ---- what calls come to

-- what a call changes of its control leaves the cursor at a place of what the device is
abbrev pub StaysOn : Option Kind → Place → ControlUpdate → Type 0
StaysOn at was (change.Cursor place) = IsPlaceOn at was → IsPlaceOn at place
StaysOn at was what = ⊤

-- so does what it comes to
abbrev pub DeedStaysOn : Option Kind → Place → Action → Type 0
DeedStaysOn at was (Gives given what) = StaysOn at was what
DeedStaysOn at was (Changes what) = StaysOn at was what
DeedStaysOn at was (Queues given) = ⊤

-- what comes of an attribute, or of a direction, is one
one_of : {A : Type 0} {f : A → Action} (o : Option A) {d : Action} (P : Action → Type 0) → ((a : A) → P (f a))
    → option_map f o ≡ Some d → P d
one_of o P each is = grind (arith, same_Some)

-- of a display
module _ (rows columns : ℕ) (cursor : Cursor) (tall : 1 ≤ rows) (wide : 1 ≤ columns) where
  abbrev at : Option Kind
  at = Some (Display rows columns)

  -- a text from a place leaves the cursor at one
  text_stays : (start : Place) (text : List ℕ) (style : Option Attribute) {d : Action}
      → (IsPlace rows columns cursor.place → IsPlace rows columns start)
      → option_map (shows at cursor start text) style ≡ Some d → DeedStaysOn at cursor.place d
  text_stays start text style within is = search (rules, one_of, text_place)

  display_stays : (asked : Call) (d : Action) → NoneApplies (display_rows at asked)
      → display_action at cursor asked ≡ Some d → DeedStaysOn at cursor.place d
  display_stays (DisplayText text attribute) d allowed is =
      text_stays cursor.place text (attribute_of attribute) (λ i. i) is
  display_stays (DisplayTextAt row column text attribute) d allowed is =
      let (row_allowed, others) = allowed in
      let first =
      with_row rows columns origin row (unless_not (is_index rows row) row_allowed) (first_place columns tall) in
      let start = with_column rows columns (record { row = nat_abs row; column = 0 }) column
      (unless_not (is_up_to columns column) others.0) first in
      text_stays (record { row = nat_abs row; column = nat_abs column }) text (attribute_of attribute) (λ i. start) is
  display_stays ClearText d allowed is =
      subst (DeedStaysOn at cursor.place) (same_Some _ d is) (λ i display. first_place columns tall)
  display_stays (ScrollText direction units) d allowed is =
      one_of (direction_of direction) (DeedStaysOn at cursor.place) (λ way. tt) is
  display_stays asked d allowed is = absurd cc

-- a call whose arguments are allowed comes to what leaves the cursor at a place of the device, which serves the
-- category
pub deed_called : (k : Category) (is : Kind) (c : Control) (asked : Call) {d : Action} → serves k is ≡ true
    → IsInRange is → NoneApplies (device_rows k (Some is) c asked) → device_action k (Some is) c asked ≡ Some d
    → DeedStaysOn (Some is) c.cursor.place d
deed_called k is c asked served range allowed e = grind (arith, display_stays)
