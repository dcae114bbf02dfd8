-- What a registry ends as, once a peripheral that it lent is given back.
use Rattle.std.specs.Prelude.{ℕ, Option, Some, None, Vec, slice_get}
use Rattle.std.specs.Borrow.{Fml, Lends, MutBor, RattleType}
use Rattle.std.specs.Vec.{with_item}
use Rattle.std.specs.declared.alloc.Global.{Global}
use Rattle.pos_profile.specs.declared.registry.Registry.{Registry}
use Rattle.pos_profile.specs.declared.slot.Slot.{Slot}
use Rattle.pos_profile.specs.contracts.registry.Registry as registry
use Rattle.pos_profile.specs.contracts.slot.Slot as slot

-- a slot, with this to serve its device
abbrev pub slot_with : {P : Type 0} → Slot P → P → Slot P
slot_with old peripheral = record old { peripheral = Some peripheral }

-- slots, with this in the one at a place, if there is one
abbrev pub slots_with : {P : Type 0} → Vec (Slot P) Global → ℕ → Option (Slot P) → P → Vec (Slot P) Global
slots_with slots place None peripheral = slots
slots_with slots place (Some old) peripheral = with_item slots place (slot_with old peripheral)

-- a registry, with this to serve the device at a place
abbrev pub registry_with : {P : Type 0} → Registry P → ℕ → P → Registry P
registry_with old place peripheral =
    record old { slots = slots_with old.slots place (slice_get old.slots.items place) peripheral }

module _ (P : RattleType) where
  -- the slot ends with what the borrow leaves
  abbrev pub slot_lends : MutBor (Slot P.Denot) → MutBor P.Denot → Fml
  slot_lends lender lent = Lends (slot.the_row P) P lender lent (slot_with lender.now)

  -- the registry ends with what the borrow leaves at the place
  abbrev pub registry_lends : MutBor (Registry P.Denot) → ℕ → MutBor P.Denot → Fml
  registry_lends lender place lent = Lends (registry.the_row P) P lender lent (registry_with lender.now place)
