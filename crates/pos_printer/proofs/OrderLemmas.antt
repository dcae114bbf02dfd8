-- What comes of an order that a printer was given.
use Rattle.std.proofs.Common.{◌≡◌, List, Ok, arith, refl}
use Rattle.std.specs.Prelude.{ℕ}
use Rattle.pos_service.specs.declared.order.Order.{Order}
use Rattle.pos_service.specs.declared.order.Reply.{Reply}
use Rattle.pos_service.specs.declared.order.Reply.TheVariants as reply
use Rattle.pos_service.specs.declared.plant.Plant.{Plant}
use Rattle.pos_service.specs.declared.signs.Signs.{Signs}
use Rattle.pos_service.specs.Controls.{Control, all_listening}
use Rattle.pos_service.specs.Actions.{Ordered}
use Rattle.pos_service.specs.Peripherals.{Asked, Performs, PeripheralState, signs_of}
use Rattle.pos_service.specs.Hardware.{hardware_of}
use Rattle.pos_service.specs.Statuses.{heard_signs}

-- the controls once they have heard what has changed at a place
abbrev pub heard_at : ℕ → PeripheralState → PeripheralState → List Control → List Control
heard_at place s t controls = all_listening place
    (heard_signs (signs_of s.kind s.plant) (signs_of t.kind t.plant)) controls

-- they have heard of signs that are those of the printer
pub heard_of : (place : ℕ) (s t : PeripheralState) (a b : Signs) (old mid new : List Control)
    → a ≡ signs_of s.kind s.plant → b ≡ signs_of t.kind t.plant → mid ≡ old
    → new ≡ all_listening place (heard_signs a b) mid → new ≡ heard_at place s t old
heard_of place s t a b old mid new is_a is_b same h = rw (h, same, is_a, is_b)

-- the printer has done it
pub ordered_done : (given : Order) (place : ℕ) (s t : PeripheralState) (old new : List Control)
    → Asked s given (Ok reply.Done) t → new ≡ heard_at place s t old
    → Ordered given place reply.Done old (hardware_of s) new (hardware_of t)
ordered_done given place s t old new asked heard = record {
  plant = asked.answer.0;
  hardware = rw (asked.kind, asked.answer.1) refl;
  controls = heard;
}

-- a printer that doesn't do an order is as it was
same_undone : (said : Reply) → (said ≡ reply.Done → ⊥) → (given : Order) (p q : Plant) → Performs given p said q → q ≡ p
same_undone reply.Done undone given p q h = absurd (undone refl)
same_undone other undone given p q h = grind arith

-- it has not done it: its cover is open, its paper doesn't suffice, its line has failed, or it is off
pub ordered_undone : (said : Reply) → (said ≡ reply.Done → ⊥)
    → (given : Order) (place : ℕ) (s t : PeripheralState) (old : List Control) → Asked s given (Ok said) t
    → Ordered given place said old (hardware_of s) old (hardware_of t)
ordered_undone said undone given place s t old asked = grind (arith, same_undone)
