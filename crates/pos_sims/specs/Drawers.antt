-- What contracts see of a simulated cash drawer.
use Rattle.std.specs.Prelude.{Bool, true}
use Rattle.pos_service.specs.declared.kind.Kind.TheVariants as kind
use Rattle.pos_service.specs.declared.plant.Mechanism.TheVariants as mechanism
use Rattle.pos_service.specs.Peripherals.{PeripheralState}
use Rattle.pos_sims.specs.Powers.{switched}
use Rattle.pos_sims.specs.declared.plain_drawer.PlainDrawer.{PlainDrawer}

-- a drawer that is on, open or not, out of service or not, whose line never fails, and that was given no order
abbrev pub drawer_state : Bool → Bool → PeripheralState
drawer_state is_open is_parked = record {
  kind = kind.Drawer;
  plant = record { powered = true; mechanism = mechanism.Drawer is_open };
  is_parked = is_parked;
  failures = 0;
  orders = 0;
}

-- what contracts see of a plain drawer
abbrev pub state_of : PlainDrawer → PeripheralState
state_of drawer =
    switched drawer.powered (record (drawer_state drawer.is_open drawer.is_parked) { orders = drawer.orders })
