-- What devices do with the bytes of an order, by the machine's mechanism.
use Rattle.std.proofs.Common.{◌≡◌, ℕ, List, [], ◌∷◌, ◌++◌, Bool, true, false, append-nil, refl, sym, ◌∙◌, subst, arith}
use Rattle.std.proofs.Common.{inl, inr, Err, IfOk, Ok, Result}
use Rattle.pos_service.specs.declared.kind.Kind.TheVariants as kind
use Rattle.pos_service.specs.declared.order.Order.{Order}
use Rattle.pos_service.specs.declared.order.Order.TheVariants as order
use Rattle.pos_service.specs.declared.order.Reply.TheVariants as reply
use Rattle.pos_service.specs.declared.plant.Mechanism.{Mechanism}
use Rattle.pos_service.specs.declared.plant.Mechanism.TheVariants as mechanism
use Rattle.pos_service.specs.declared.plant.Plant.{Plant}
use Rattle.pos_service.specs.Displays.{Display}
use Rattle.pos_service.specs.Peripherals.{IsMechanismOf, IsOn, IsPlantOf, Obeys, PeripheralState, Performs}
use Rattle.pos_service.specs.Peripherals.{order_fits, switched_on}
use Rattle.pos_service.specs.Receipts.{Item, Printer, printed_by}
use Rattle.pos_sims.specs.Additions.{Adds, PrintsNothing, pieces_ordered}
use Rattle.pos_escpos.specs.declared.settings.DrawerKick.{DrawerKick}
use Rattle.pos_escpos.specs.DisplayBytes.{can_become}
use Rattle.pos_escpos.specs.PrinterBytes.{all_fit, all_on_paper, items_bytes}
use Rattle.pos_escpos.specs.PrinterCommands.{kick_command, kick_pulse}
use Rattle.pos_escpos.specs.Printers.{IsReady, OnPaper, Press, PrintsOnly, press_after}
use Rattle.pos_wire.specs.declared.frames.JobEnd.{JobEnd}
use Rattle.pos_wire.specs.declared.settings.WireSettings.{WireSettings}
use Rattle.pos_wire.specs.Frames.{AllDo, Does, asked_first, asked_last, framed_bytes}
use Rattle.pos_wire.specs.Orders.{AllShow, HasNoBytes, Sends, SendsOrder, bytes_of, has_bytes, known_before, lit}
use Rattle.pos_wire.specs.Orders.{shown_bytes}
use Rattle.pos_wire.specs.Settings.{cut_of, kick_of}

-- what two facts of a value say together
pub both_of_ok : {X Y : Type 0} (r : Result X Y) (P Q R : X → Type 0) → ((x : X) → P x → Q x → R x) → IfOk r P
    → IfOk r Q → IfOk r R
both_of_ok (Ok x) P Q R both p q = both x p q
both_of_ok (Err e) P Q R both p q = tt

-- A drawer that takes an order opens by it. That one order is named makes the last line one for each of the others.
drawer_opens : (asked : Order) (was : Bool) → order_fits kind.Drawer asked ≡ true
    → Obeys asked (mechanism.Drawer was) reply.Done (mechanism.Drawer true)
drawer_opens order.ClearText was fits = grind arith
drawer_opens asked was fits = grind arith

-- the mechanism of a drawer
is_drawer : (old : Mechanism) → IsMechanismOf kind.Drawer old → (was : Bool) × (old ≡ mechanism.Drawer was)
is_drawer (mechanism.Drawer was) is = (was, refl)
is_drawer mechanism.Scanner is = absurd is
is_drawer (mechanism.Display shown) is = absurd is
is_drawer (mechanism.Printer printed) is = absurd is

pub drawer_sends : {settings : WireSettings} {is_new : Bool} {end : JobEnd} {state : PeripheralState} {asked : Order}
    {bytes : List ℕ} → IsOn state.plant → IsPlantOf kind.Drawer state.plant → order_fits kind.Drawer asked ≡ true
    → bytes ≡ framed_bytes is_new end (kick_command (kick_of settings)) → ((width : ℕ)
    → AllDo is_new width [] (kick_pulse (kick_of settings) ∷ []) (asked_first is_new ++ asked_last end) bytes)
    → SendsOrder settings is_new end state asked bytes
drawer_sends {settings} {is_new} {end} {state} {asked} {bytes} is_on is fits exact all =
    let left = mechanism.Drawer true in
    let drawer = is_drawer state.plant.mechanism is in
    record {
      new = switched_on left;
      done = (
        is_on,
        refl,
        subst (λ (old : Mechanism). Obeys asked old reply.Done left) (sym drawer.1)
            (drawer_opens asked drawer.0 fits),
      );
      sends =
          subst (λ (old : Mechanism). Sends settings is_new end asked old left bytes) (sym drawer.1) all;
      exact =
          subst (λ (old : Mechanism). bytes ≡ bytes_of settings is_new end asked old left) (sym drawer.1) exact;
    }

-- a printer that gives a pulse alone
pub kicks_alone : (width : ℕ) (kick : DrawerKick) (sent : List ℕ) → ((press : Press) → press.begun ≡ []
    → press_after width press sent ≡ record press { pulses = press.pulses ++ kick_pulse kick ∷ [] })
    → AllDo false width [] (kick_pulse kick ∷ []) [] sent
kicks_alone width kick sent h press ready =
    subst (λ (new : Press). Does [] (kick_pulse kick ∷ []) [] press new) (sym (h press ready.whole)) (record {
      paper = sym (append-nil press.paper);
      pulses = refl;
      asked = sym (append-nil press.asked);
      unknown = refl;
      ready = record { line = ready.line; not_bold = ready.not_bold; whole = ready.whole };
    })

-- a printer that prints alone what is sent
pub prints_alone : (width : ℕ) {items : List OnPaper} (sent : List ℕ)
    → ((press : Press) → IsReady press → PrintsOnly press items (press_after width press sent))
    → AllDo false width items [] [] sent
prints_alone width sent h press ready =
    let prints = h press ready in
    record {
      paper = prints.paper;
      pulses = prints.pulses ∙ sym (append-nil press.pulses);
      asked = prints.asked ∙ sym (append-nil press.asked);
      unknown = prints.unknown;
      ready = prints.ready;
    }

pub printer_sends : {settings : WireSettings} {is_new : Bool} {end : JobEnd} {state : PeripheralState} {asked : Order}
    {roll : Printer} {bytes : List ℕ} → Adds state.plant asked roll
    → bytes ≡ framed_bytes is_new end (items_bytes (cut_of settings) roll.items) → AllDo is_new settings.width
    (all_on_paper (cut_of settings) roll.items) [] (asked_first is_new ++ asked_last end) bytes
    → SendsOrder settings is_new end state asked bytes
printer_sends {settings} {is_new} {end} {state} {asked} {roll} {bytes} adds exact all =
    let printer = adds.printer in
    let left = mechanism.Printer (record roll { items = printer.items ++ roll.items }) in
    let same = subst (λ (items : List Item). AllDo is_new settings.width (all_on_paper (cut_of settings) items) []
    (asked_first is_new ++ asked_last end) bytes) adds.items all in
    let sent = subst (λ (items : List Item). bytes ≡ framed_bytes is_new end (items_bytes (cut_of settings) items))
    adds.items exact in
    record {
      new = record state.plant { mechanism = left };
      done = adds.done;
      sends = subst (λ (old : Mechanism). Sends settings is_new end asked old left bytes) (sym adds.stands) same;
      exact = subst (λ (old : Mechanism). bytes ≡ bytes_of settings is_new end asked old left) (sym adds.stands) sent;
    }

-- a display that is on
lit_is : {plant : Plant} {shown : Display} → IsOn plant → plant.mechanism ≡ mechanism.Display shown → plant ≡ lit shown
lit_is is_on is = grind arith

pub display_sends : {settings : WireSettings} {is_new : Bool} (end : JobEnd) {state : PeripheralState} {asked : Order}
    {old : Display} (new : Display) {bytes : List ℕ} → IsOn state.plant → state.plant.mechanism ≡ mechanism.Display old
    → Performs asked (lit old) reply.Done (lit new) → bytes ≡ shown_bytes settings is_new old new
    → AllShow settings is_new old new bytes → SendsOrder settings is_new end state asked bytes
display_sends {settings} {is_new} end {asked} new {bytes} is_on is done exact shows = record {
  new = lit new;
  done = subst (λ (plant : Plant). Performs asked plant reply.Done (lit new)) (sym (lit_is is_on is)) done;
  sends = subst (λ (was : Mechanism). Sends settings is_new end asked was (mechanism.Display new) bytes) (sym is) shows;
  exact = subst (λ (was : Mechanism). bytes ≡ bytes_of settings is_new end asked was (mechanism.Display new)) (sym is)
      exact;
}

-- Orders that have no bytes.

-- a printer that adds nothing carries nothing out
printer_stays : (chars near : ℕ) {plant : Plant} (asked : Order) (old : Mechanism) → plant.mechanism ≡ old
    → IsMechanismOf (kind.Printer chars near) old → PrintsNothing plant asked → (new : Plant)
    → Performs asked plant reply.Done new → ⊥
printer_stays chars near asked (mechanism.Printer printed) is kind_is nothing = nothing printed is
printer_stays chars near asked (mechanism.Drawer was) is kind_is nothing = absurd kind_is
printer_stays chars near asked mechanism.Scanner is kind_is nothing = absurd kind_is
printer_stays chars near asked (mechanism.Display shown) is kind_is nothing = absurd kind_is

pub adds_nothing : (chars near : ℕ) (is_new : Bool) (state : PeripheralState) (asked : Order)
    → IsPlantOf (kind.Printer chars near) state.plant → PrintsNothing state.plant asked → HasNoBytes is_new state asked
adds_nothing chars near is_new state asked is nothing =
    inl (printer_stays chars near asked state.plant.mechanism refl is nothing)

-- a printer's characters a line
chars_are : {chars : ℕ} (near : ℕ) {old : Mechanism} {printer : Printer} → old ≡ mechanism.Printer printer
    → IsMechanismOf (kind.Printer chars near) old → printer.chars ≡ chars
chars_are {chars} near {printer} is kind_is =
    let there : IsMechanismOf (kind.Printer chars near) (mechanism.Printer printer) =
    subst (λ (f : Mechanism). IsMechanismOf (kind.Printer chars near) f) is kind_is in
    there

-- what a printer adds doesn't fit it
pub adds_misfit : (chars near : ℕ) (is_new : Bool) (state : PeripheralState) {asked : Order} {roll : Printer}
    → IsPlantOf (kind.Printer chars near) state.plant → Adds state.plant asked roll → all_fit chars roll.items ≡ false
    → HasNoBytes is_new state asked
adds_misfit chars near is_new state {asked} {roll} is adds misfit =
    let printer = adds.printer in
    let left = mechanism.Printer (record roll { items = printer.items ++ roll.items }) in
    let same : printer.chars ≡ chars = chars_are near adds.stands is in
    let by_items : all_fit chars (printed_by printer.chars printer.buffer (pieces_ordered asked)).items ≡ false =
    subst (λ (items : List Item). all_fit chars items ≡ false) adds.items misfit in
    let by_chars : all_fit printer.chars (printed_by printer.chars printer.buffer (pieces_ordered asked)).items
    ≡ false = subst (λ (k : ℕ). all_fit k (printed_by printer.chars printer.buffer (pieces_ordered asked)).items
    ≡ false) (sym same) by_items in
    inr (
      record state.plant { mechanism = left },
      adds.done,
      subst (λ (old : Mechanism). has_bytes is_new asked old left ≡ false) (sym adds.stands) by_chars,
    )

-- the cells that a display shows have no bytes
pub display_misfit : (is_new : Bool) (state : PeripheralState) (asked : Order) {old : Display} (new : Display)
    → IsOn state.plant → state.plant.mechanism ≡ mechanism.Display old → Performs asked (lit old) reply.Done (lit new)
    → can_become (known_before is_new old new) new ≡ false → HasNoBytes is_new state asked
display_misfit is_new state asked new is_on is done misfit = inr (
  lit new,
  subst (λ (plant : Plant). Performs asked plant reply.Done (lit new)) (sym (lit_is is_on is)) done,
  subst (λ (was : Mechanism). has_bytes is_new asked was (mechanism.Display new) ≡ false) (sym is) misfit,
)
