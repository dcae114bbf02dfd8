-- How bytes around an order add up.
use Rattle.std.proofs.Common.{◌≡◌, ℕ, List, [], false, refl, sym, subst}
use Rattle.std.proofs.lemmas.List.{append-nil}
use Rattle.std.specs.Prelude.{◌∷◌}
use Rattle.pos_escpos.specs.Printers.{Press, press_after, questioned}
use Rattle.pos_wire.specs.Frames.{AllDo, Does}

-- a command for a status
pub asks : (width : ℕ) {sent : List ℕ}
    → ((press : Press) → press.begun ≡ [] → press_after width press sent ≡ questioned sent press)
    → AllDo false width [] [] (sent ∷ []) sent
asks width {sent} h press ready =
    subst (λ (new : Press). Does [] [] (sent ∷ []) press new) (sym (h press ready.whole)) (record {
      paper = sym (append-nil press.paper);
      pulses = sym (append-nil press.pulses);
      asked = refl;
      unknown = refl;
      ready = record { line = ready.line; not_bold = ready.not_bold; whole = ready.whole };
    })
