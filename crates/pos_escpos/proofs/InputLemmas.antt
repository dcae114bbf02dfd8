-- What a device shows once it has taken the inputs of a status.
use Rattle.std.proofs.Common.{◌≡◌, ℕ, Bool, true, false, refl, ap, ◌∙◌, arith, Option, Some, None, ◌==◌, unwrap_or}
use Rattle.std.proofs.Common.{subst, ⊎_elim}
use Rattle.std.proofs.lemmas.Bool.{ne_eqb, cases_Bool, le-leb, lt-leb}
use Rattle.pos_service.specs.declared.input.Input.TheVariants as input
use Rattle.pos_service.specs.declared.kind.Kind.TheVariants as kind
use Rattle.pos_service.specs.declared.plant.Mechanism.{Mechanism}
use Rattle.pos_service.specs.declared.plant.Mechanism.TheVariants as mechanism
use Rattle.pos_service.specs.declared.plant.Plant.{Plant}
use Rattle.pos_service.specs.declared.signs.PaperLevel.{PaperLevel}
use Rattle.pos_service.specs.declared.signs.PaperLevel.TheVariants as paper
use Rattle.pos_service.specs.declared.signs.Signs.{Signs}
use Rattle.pos_service.specs.Receipts.{Printer, paper_level}
use Rattle.pos_service.specs.Peripherals.{IsPlantOf, signs_by, signs_of}
use Rattle.pos_escpos.specs.declared.settings.SensorSettings.{SensorSettings}
use Rattle.pos_escpos.specs.declared.statuses.Status.{Status}
use Rattle.pos_escpos.specs.Inputs.{TakesAll, TakesMaybe, drawer_signs_after, drawer_table, level_after, level_input}
use Rattle.pos_escpos.specs.Inputs.{level_shown, lines_for, moved_input, open_told, paper_input, power_input}
use Rattle.pos_escpos.specs.Inputs.{printer_signs_after, printer_table}

-- a plant that is on
abbrev pub on : Mechanism → Plant
on its = record { powered = true; mechanism = its }

is_on : {its : Mechanism} {plant : Plant} → (plant.powered ≡ true) × (plant.mechanism ≡ its) → plant ≡ on its
is_on {plant} (powered, is) =
    ap (λ powered. record { powered = powered; mechanism = plant.mechanism }) powered ∙ ap on is

-- power is on then
power_taken : (powered : Bool) {its : Mechanism} {new : Plant}
    → TakesMaybe (power_input powered) (record { powered = powered; mechanism = its }) new → new ≡ on its
power_taken true h = h
power_taken false h = h

-- the cover is as it was told then
cover_taken : (shown : Bool) (r : Printer) (told : Option Bool) {new : Plant}
    → TakesMaybe (moved_input input.CoverMoved shown told) (on (mechanism.Printer (record r { is_cover_open = shown })))
    new → new ≡ on (mechanism.Printer (record r { is_cover_open = unwrap_or told shown }))
cover_taken shown r None h = h
cover_taken true r (Some true) h = h
cover_taken true r (Some false) h = is_on h
cover_taken false r (Some true) h = is_on h
cover_taken false r (Some false) h = h

-- the lines for a level are of that level
lines_show : (sensors : SensorSettings) (level : PaperLevel)
    → paper_level sensors.near (lines_for sensors (level_shown sensors.near level)) ≡ level_shown sensors.near level
lines_show sensors paper.Good =
    rw (ne_eqb sensors.lines 0 (λ e. omega (arith, sensors.more)), lt-leb sensors.lines sensors.near sensors.more) refl
lines_show sensors paper.NearEnd = ⊎_elim (λ (none : (sensors.near == 0) ≡ true). rw (
  none,
  ne_eqb sensors.lines 0 (λ e. omega (arith, sensors.more)),
  lt-leb sensors.lines sensors.near sensors.more,
) refl) (λ (some : (sensors.near == 0) ≡ false). rw (some, some, le-leb sensors.near sensors.near (omega arith)) refl)
    (cases_Bool (sensors.near == 0))
lines_show sensors paper.Empty = refl

-- a printer with so much paper, which shows this level
pub record HasPaper (near : ℕ) (r : Printer) (shown : PaperLevel) (new : Plant) : Type 0 where
  pub lines : ℕ
  pub plant : new ≡ on (mechanism.Printer (record r { left = lines }))
  pub level : paper_level near lines ≡ shown

-- paper that is loaded shows its level
loaded : (sensors : SensorSettings) {r : Printer} {level : PaperLevel} {new : Plant}
    → paper_level sensors.near (lines_for sensors level) ≡ level
    → (new.powered ≡ true) × (new.mechanism ≡ mechanism.Printer (record r { left = lines_for sensors level }))
    → HasPaper sensors.near r level new
loaded sensors {level} shows h = record {
  lines = lines_for sensors level;
  plant = is_on h;
  level = shows;
}

-- a printer that shows the level is left alone
left_alone : (sensors : SensorSettings) (r : Printer) {level : PaperLevel} {new : Plant}
    → paper_level sensors.near r.left ≡ level → new ≡ on (mechanism.Printer r) → HasPaper sensors.near r level new
left_alone sensors r {level} shows h = record { lines = r.left; plant = h; level = shows }

level_taken : (sensors : SensorSettings) {r : Printer} (shown level : PaperLevel) {new : Plant}
    → paper_level sensors.near r.left ≡ shown → paper_level sensors.near (lines_for sensors level) ≡ level
    → TakesMaybe (level_input sensors shown level) (on (mechanism.Printer r)) new → HasPaper sensors.near r level new
level_taken sensors {r} paper.Good paper.Good is shows h = left_alone sensors r is h
level_taken sensors paper.Good paper.NearEnd is shows h = loaded sensors shows h
level_taken sensors paper.Good paper.Empty is shows h = loaded sensors shows h
level_taken sensors paper.NearEnd paper.Good is shows h = loaded sensors shows h
level_taken sensors {r} paper.NearEnd paper.NearEnd is shows h = left_alone sensors r is h
level_taken sensors paper.NearEnd paper.Empty is shows h = loaded sensors shows h
level_taken sensors paper.Empty paper.Good is shows h = loaded sensors shows h
level_taken sensors paper.Empty paper.NearEnd is shows h = loaded sensors shows h
level_taken sensors {r} paper.Empty paper.Empty is shows h = left_alone sensors r is h

paper_taken : (sensors : SensorSettings) (r : Printer) (told : Option PaperLevel) {new : Plant}
    → TakesMaybe (paper_input sensors (paper_level sensors.near r.left) told) (on (mechanism.Printer r)) new
    → HasPaper sensors.near r (level_after sensors.near (paper_level sensors.near r.left) told) new
paper_taken sensors r None h = left_alone sensors r refl h
paper_taken sensors r (Some level) h = level_taken sensors (paper_level sensors.near r.left)
    (level_shown sensors.near level) refl (lines_show sensors level) h

-- a printer shows what its sensors tell
printer_shows : (sensors : SensorSettings) (chars : ℕ) (powered : Bool) (r : Printer) (status : Status) {new : Plant}
    → let is = kind.Printer chars sensors.near in let signs = signs_by powered is (mechanism.Printer r) in
    TakesAll (printer_table sensors signs status) (record { powered = powered; mechanism = mechanism.Printer r }) new
    → signs_of is new ≡ printer_signs_after sensors signs status
printer_shows sensors chars powered r status (turned_on, powers, (opened, moves, (filled, loads, last))) =
    let is = kind.Printer chars sensors.near in
    let one = power_taken powered powers in
    let cover = unwrap_or status.is_cover_open r.is_cover_open in
    let moved = record r { is_cover_open = cover } in
    let two = cover_taken r.is_cover_open r status.is_cover_open (rw one at moves) in
    let three = paper_taken sensors moved status.paper (rw two at loads) in
    ap (signs_of is) (last ∙ three.plant)
    ∙ ap (λ level. record { powered = true; drawer_open = false; cover_open = cover; paper = level }) three.level

pub printer_told : (sensors : SensorSettings) (chars : ℕ) (old : Plant) {signs : Signs} (status : Status) (new : Plant)
    → let is = kind.Printer chars sensors.near in IsPlantOf is old → signs_of is old ≡ signs
    → TakesAll (printer_table sensors signs status) old new → signs_of is new ≡ printer_signs_after sensors signs status
printer_told sensors chars old {signs} status new fits is h =
    let kind_is = kind.Printer chars sensors.near in
    (elim old.mechanism as (λ its. IsPlantOf kind_is (record { powered = old.powered; mechanism = its })
    → signs_by old.powered kind_is its ≡ signs
    → TakesAll (printer_table sensors signs status) (record { powered = old.powered; mechanism = its }) new
    → signs_of kind_is new ≡ printer_signs_after sensors signs status) [
      | mechanism.Drawer b ↦ (λ bad. absurd bad)
      | mechanism.Scanner ↦ (λ bad. absurd bad)
      | mechanism.Display d ↦ (λ bad. absurd bad)
      | mechanism.Printer r ↦ (λ _ e taken. subst (λ (s : Signs). TakesAll (printer_table sensors s status)
          (record { powered = old.powered; mechanism = mechanism.Printer r }) new → signs_of kind_is new
          ≡ printer_signs_after sensors s status) e (printer_shows sensors chars old.powered r status) taken)
    ]) fits is h

-- a drawer is as it was told then
drawer_taken : (shown : Bool) (told : Option Bool) {new : Plant}
    → TakesMaybe (moved_input input.DrawerMoved shown told) (on (mechanism.Drawer shown)) new
    → new ≡ on (mechanism.Drawer (unwrap_or told shown))
drawer_taken shown None h = h
drawer_taken true (Some true) h = h
drawer_taken true (Some false) h = is_on h
drawer_taken false (Some true) h = is_on h
drawer_taken false (Some false) h = h

drawer_shows : (sensors : SensorSettings) (powered was : Bool) (status : Status) {new : Plant}
    → let signs = signs_by powered kind.Drawer (mechanism.Drawer was) in
    TakesAll (drawer_table sensors signs status) (record { powered = powered; mechanism = mechanism.Drawer was }) new
    → signs_of kind.Drawer new ≡ drawer_signs_after sensors signs status
drawer_shows sensors powered was status (turned_on, powers, (moved, moves, last)) =
    let one = power_taken powered powers in
    let two = drawer_taken was (open_told sensors status.is_pin_high) (rw one at moves) in
    ap (signs_of kind.Drawer) (last ∙ two)

pub drawer_told : (sensors : SensorSettings) (old : Plant) {signs : Signs} (status : Status) (new : Plant)
    → IsPlantOf kind.Drawer old → signs_of kind.Drawer old ≡ signs
    → TakesAll (drawer_table sensors signs status) old new
    → signs_of kind.Drawer new ≡ drawer_signs_after sensors signs status
drawer_told sensors old {signs} status new fits is h = (elim old.mechanism as
    (λ its. IsPlantOf kind.Drawer (record { powered = old.powered; mechanism = its }) → signs_by old.powered kind.Drawer
    its ≡ signs → TakesAll (drawer_table sensors signs status) (record { powered = old.powered; mechanism = its }) new
    → signs_of kind.Drawer new ≡ drawer_signs_after sensors signs status) [
      | mechanism.Drawer was ↦ (λ _ e taken. subst (λ (s : Signs). TakesAll (drawer_table sensors s status)
          (record { powered = old.powered; mechanism = mechanism.Drawer was }) new → signs_of kind.Drawer new
          ≡ drawer_signs_after sensors s status) e (drawer_shows sensors old.powered was status) taken)
      | mechanism.Scanner ↦ (λ bad. absurd bad)
      | mechanism.Display d ↦ (λ bad. absurd bad)
      | mechanism.Printer r ↦ (λ bad. absurd bad)
    ]) fits is h
