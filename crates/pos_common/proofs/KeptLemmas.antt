-- What a change of one control does to the machine's controls.
use Rattle.pos_common.proofs.Common.{All, All-head, All-push, All-tail, Control, KeptControl, List, ap, arith}
use Rattle.pos_common.proofs.Common.{controls_of, drop, drop-drop, drop-set-lt, drop_more, get_or, get_or-map, length}
use Rattle.pos_common.proofs.Common.{length-map, map, map-set, set, set-get_or, subst, sym, take, take_more_set, ℕ}
use Rattle.pos_common.proofs.Common.{◌++◌, Some, slice_get, slice_get-get_or, ◌+◌, ◌<◌, ◌∙◌, ◌≡◌}
use Rattle.std.proofs.lemmas.List.Edits.{map_over_more}

-- a held control at a place is the machine's control there
pub control_at : (hs : List KeptControl) (i : ℕ) (d : KeptControl) (c : Control) → i < length hs
    → (get_or hs i d).control ≡ get_or (controls_of hs) i c
control_at hs i d c lt = sym (get_or-map (λ (g : KeptControl). g.control) hs i d c lt)

-- a held control that is still the same control changes nothing of the machine
pub same_control : (hs : List KeptControl) (i : ℕ) (d g : KeptControl) → i < length hs
    → g.control ≡ (get_or hs i d).control → controls_of (set hs i g) ≡ controls_of hs
same_control hs i d g lt s = grind (
  arith,
  map-set (λ (f : KeptControl). f.control) hs i g,
  control_at hs i d g.control,
  set-get_or (controls_of hs) i g.control,
)

-- one more control is mapped
pub mapped_more : (f : Control → Control) (olds hs : List KeptControl) (i : ℕ) (d g : KeptControl) → i < length hs
    → g.control ≡ f (get_or hs i d).control
    → controls_of hs ≡ map f (take i (controls_of olds)) ++ drop i (controls_of olds) → length olds ≡ length hs
    → controls_of (set hs i g) ≡ map f (take (i + 1) (controls_of olds)) ++ drop (i + 1) (controls_of olds)
mapped_more f olds hs i d g lt s m n = rw (map-set (λ (x : KeptControl). x.control) hs i g, s)
    (map_over_more f (controls_of olds) (controls_of hs) i (get_or hs i d).control
    (omega (arith, length-map olds (λ (x : KeptControl). x.control))) m (control_at hs i d (get_or hs i d).control lt))

-- what each element from a place on has, the element there has
pub first_of_rest : (P : KeptControl → Type 0) (hs : List KeptControl) (i : ℕ) (d : KeptControl) → i < length hs
    → All P (drop i hs) → P (get_or hs i d)
first_of_rest P hs i d lt a = All-head P (get_or hs i d) (drop (i + 1) hs) (rw (drop_more hs i d lt) at a)

-- what each element from a place on has, those behind it have when it is changed
pub rest_after_set : (P : KeptControl → Type 0) (hs : List KeptControl) (i : ℕ) (g : KeptControl) → i < length hs
    → All P (drop i hs) → All P (drop (i + 1) (set hs i g))
rest_after_set P hs i g lt a = rw (drop-set-lt (i + 1) hs i g (omega arith))
    (All-tail P (get_or hs i g) (drop (i + 1) hs) (rw (drop_more hs i g lt) at a))

-- of two lists that are the same from a place on, the elements behind the place stay when it is changed
pub same_rest : (hs old : List KeptControl) (i : ℕ) (g : KeptControl) → drop i hs ≡ drop i old
    → drop (i + 1) (set hs i g) ≡ drop (i + 1) old
same_rest hs old i g r = drop-set-lt (i + 1) hs i g (omega arith) ∙ sym (drop-drop 1 i hs) ∙ ap (drop 1) r
    ∙ drop-drop 1 i old

-- one more at the front has it
pub front_after_set : (P : KeptControl → Type 0) (hs : List KeptControl) (i : ℕ) (g : KeptControl) → i < length hs → P g
    → All P (take i hs) → All P (take (i + 1) (set hs i g))
front_after_set P hs i g lt p a = subst (All P) (sym (take_more_set hs i g lt)) (All-push P (take i hs) g a p)

-- the control with a number that is given, as the machine sees it
pub given_at : (hs : List KeptControl) (n : ℕ) (d : KeptControl) → n < length hs
    → slice_get (controls_of hs) n ≡ Some (get_or hs n d).control
given_at hs n d lt =
    let within : n < length (controls_of hs) = omega (arith, length-map hs (λ (g : KeptControl). g.control), lt) in
    slice_get-get_or (controls_of hs) n d.control within ∙ ap Some (sym (control_at hs n d d.control lt))

-- the control that is kept at a place, as the machine sees it
pub kept_at : (hs : List KeptControl) (n : ℕ) (h : KeptControl) → n < length hs → h ≡ get_or hs n h
    → slice_get (controls_of hs) n ≡ Some h.control
kept_at hs n h lt is = given_at hs n h lt ∙ ap (λ (g : KeptControl). Some g.control) (sym is)
