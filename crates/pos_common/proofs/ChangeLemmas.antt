-- What a change of one control does to the machine's controls.
use Rattle.pos_common.proofs.Common.{Control, KeptControl, List, MatchOption, arith, controls_of, get_or, length}
use Rattle.pos_common.proofs.Common.{length-map, map-set, set, slice_get, slice_get-get_or, slice_set, ℕ, ◌<◌, ◌≡◌}
use Rattle.pos_common.proofs.KeptLemmas.{control_at}

-- a held control that has changed is a change of the machine's control there
pub changed_at : (f : Control → Control) (hs : List KeptControl) (i : ℕ) (d g : KeptControl) → i < length hs
    → g.control ≡ f (get_or hs i d).control → MatchOption (slice_get (controls_of hs) i) ⊥
    (λ control. controls_of (set hs i g) ≡ slice_set (controls_of hs) i (f control))
changed_at f hs i d g lt s =
    let within : i < length (controls_of hs) = omega (arith, length-map hs (λ (h : KeptControl). h.control)) in
    rw (slice_get-get_or (controls_of hs) i d.control within)
    (grind (arith, map-set (λ (h : KeptControl). h.control) hs i g, control_at hs i d d.control))
