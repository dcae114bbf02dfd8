-- What is told of the order that is pending.
use Rattle.kijolvar.proofs.Common.{List, refl, ℕ, ◌≡◌}
use Rattle.std.proofs.Common.{inr, true}
use Rattle.std.specs.Prelude.{Some, not, ◌==◌}
use Rattle.pos_service.specs.declared.order.Order.{Order}
use Rattle.pos_service.specs.Peripherals.{order_fits}
use Rattle.pos_drive.specs.Courses.{order_in}
use Rattle.pos_drive.specs.declared.courses.Course.{Course}
use Rattle.pos_wire.specs.Orders.{HasNoBytes}
use Rattle.pos_wire.specs.Settings.{settings_fit}
use Rattle.pos_wire.specs.declared.settings.WireSettings.{WireSettings}
use Rattle.pos_run.specs.Simulations.{wrapped_state}
use Rattle.pos_counter.specs.Hosts.{pending_peripheral}
use Rattle.pos_counter.specs.KeptDevices.{slots_in}
use Rattle.kijolvar.specs.declared.device.Device.{Device}
use Rattle.kijolvar.specs.declared.till_state.TillState.{TillState}
use Rattle.kijolvar.specs.Codes.{no_order}
use Rattle.kijolvar.specs.WireCalls.{AnswersOrderBytes}

-- the order that is pending has no bytes
pub tells_no_order : (hosts : Device → Course) (till : TillState) (settings : WireSettings) (is_new behind : ℕ)
    (before : List ℕ) (needed : ℕ) {name : List ℕ} {device : Device} {given : Order}
    → Some (name, device) ≡ pending_peripheral hosts (slots_in till.counter.devices)
    → Some given ≡ order_in (hosts device) → settings_fit (wrapped_state device.driven.twin).kind settings ≡ true
    → (order_fits (wrapped_state device.driven.twin).kind given ≡ true
    → HasNoBytes (not (is_new == 0)) (wrapped_state device.driven.twin) given)
    → AnswersOrderBytes hosts till settings is_new behind before before needed needed no_order
tells_no_order hosts till settings is_new behind before needed found waits fit none =
    rw (← found) (rw (← waits) (inr (record {
      why = inr (inr (refl, fit, none));
      tells = record { text_stays = refl; needed_stays = refl; code_told = refl };
    })))
