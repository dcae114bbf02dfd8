-- The current image, and what changes of the other slots leave of it.
use Rattle.pos_image.proofs.Common.{First, Fourth, HasPrepared, InRange, IsCurrent, IsFound, IsPrepared, List, Prepared}
use Rattle.pos_image.proofs.Common.{SameBut, Second, ShowsImage, Slot, Stages, Third, ap, arith, body_at, current_on}
use Rattle.pos_image.proofs.Common.{false, first_of, from_be_bytes, get_or, image_in, image_on, inl, inr, is_marked}
use Rattle.pos_image.proofs.Common.{is_open, is_tied, kept_part, layout_of, layout_on, le-leb, le-ltb, length}
use Rattle.pos_image.proofs.Common.{length_at, log_place, longest, other, part, refl, sequence_at, start, sym, true}
use Rattle.pos_image.proofs.Common.{w32, w64, ℕ, ◌+◌, ◌<◌, ◌∙◌, ◌≡◌, ◌≤◌}
use Rattle.pos_image.specs.declared.layout.Layout.TheVariants.{Layout1, Layout2}
use Rattle.pos_image.proofs.PlaceLemmas.{IsApart, beside_apart, other_other, places, same_or_apart}

-- a gate outside the range is as it was
pub kept_gate : {old new : List ℕ} {at n : ℕ} → SameBut at n old new → (i : ℕ) → ¬ (InRange at n i)
    → is_open new i ≡ is_open old i
kept_gate same i outside = rw (same.elsewhere i outside)

-- so is the sequence of a slot
pub kept_sequence : {old new : List ℕ} {at n : ℕ} → SameBut at n old new → (slot : Slot) → 327680 ≤ length old
    → ((i : ℕ) → InRange (start slot + 1) 12 i → ¬ (InRange at n i))
    → sequence_at new (start slot) ≡ sequence_at old (start slot)
unfolding sequence_at
kept_sequence same slot whole outside =
    let here = places slot in
    ap (from_be_bytes w64) (kept_part same (start slot + 1) 8 (omega arith) (λ i inside. outside i (omega arith)))

-- with its gate
pub kept_head : {old new : List ℕ} {at n : ℕ} → SameBut at n old new → (slot : Slot) → 327680 ≤ length old
    → ((i : ℕ) → InRange (start slot) 13 i → ¬ (InRange at n i)) → (is_open new (start slot) ≡ is_open old (start slot))
    × (sequence_at new (start slot) ≡ sequence_at old (start slot))
kept_head same slot whole outside = (
  kept_gate same (start slot) (outside (start slot) (omega arith)),
  kept_sequence same slot whole (λ i inside. outside i (omega arith)),
)

-- An image in a slot, whatever its gate.
pub record HasBody (bytes : List ℕ) (slot : Slot) (body : List ℕ) (sequence : ℕ) : Type 0 where
  pub sequence_is : sequence_at bytes (start slot) ≡ sequence
  pub fits : length_at bytes (start slot) ≤ longest (layout_of slot)
  pub body_is : body_at bytes (start slot) ≡ body

-- and an image
pub kept_body : {old new body : List ℕ} {at n sequence : ℕ} {slot : Slot} → SameBut at n old new → 327680 ≤ length old
    → ((i : ℕ) → InRange (start slot + 1) (12 + longest (layout_of slot)) i → ¬ (InRange at n i))
    → HasBody old slot body sequence → HasBody new slot body sequence
unfolding length_at body_at
kept_body {old} {new} {slot} same whole outside has =
    let here = places slot in
    let fits = has.fits in
    let long =
    ap (from_be_bytes w32) (kept_part same (start slot + 9) 4 (omega arith) (λ i inside. outside i (omega arith))) in
    let behind =
    kept_part same (start slot + 13) (length_at old (start slot)) (omega arith) (λ i inside. outside i (omega arith)) in
    let number = kept_sequence same slot whole (λ i inside. outside i (omega arith)) in
    grind arith

-- by layout 1 the gates of layout 2 are closed
pub first_layout : (bytes : List ℕ) → layout_on bytes ≡ Layout1 → (slot : Slot) → layout_of slot ≡ Layout2
    → is_open bytes (start slot) ≡ true → ⊥
unfolding layout_on
first_layout bytes is slot later opened = grind arith

-- where a gate of layout 2 is open, it is the disk's
pub second_layout : (bytes : List ℕ) (slot : Slot) → layout_of slot ≡ Layout2 → is_open bytes (start slot) ≡ true
    → layout_on bytes ≡ Layout2
unfolding layout_on
second_layout bytes slot later opened = grind arith

-- where both gates are closed, the disk is of layout 1
pub first_here : (bytes : List ℕ) → is_open bytes 65536 ≡ false → is_open bytes 196608 ≡ false
    → layout_on bytes ≡ Layout1
unfolding layout_on
first_here bytes shut shut_too = rw (shut, shut_too)

-- the layout stays while a slot of it is open, where none of layout 2 is opened beside one of layout 1
layout_stays : (old new : List ℕ) (slot : Slot) → layout_on old ≡ layout_of slot → is_open new (start slot) ≡ true
    → (layout_of slot ≡ Layout1 → (s : Slot) → layout_of s ≡ Layout2 → is_open new (start s) ≡ true
    → is_open old (start s) ≡ true) → layout_on new ≡ layout_of slot
unfolding layout_on
layout_stays old new slot was opened kept =
    let third = λ (first : layout_of slot ≡ Layout1). kept first Third refl in
    let fourth = λ (first : layout_of slot ≡ Layout1). kept first Fourth refl in
    grind (arith, third, fourth)

-- a slot that is open now was open before, with the same sequence
abbrev pub OpensNone : List ℕ → List ℕ → Type 0
OpensNone old new = (slot : Slot) → is_open new (start slot) ≡ true
    → (is_open old (start slot) ≡ true) × (sequence_at new (start slot) ≡ sequence_at old (start slot))

-- what stays away from a slot up to its log, and opens none, leaves the current image in it
pub kept_away : {slot : Slot} {old new body : List ℕ} {sequence at n : ℕ} → IsCurrent old slot body sequence
    → SameBut at n old new → ((i : ℕ) → InRange (start slot) (log_place (layout_of slot)) i → ¬ (InRange at n i))
    → OpensNone old new → IsCurrent new slot body sequence
kept_away {slot} {old} {new} {body} {sequence} current same outside opens =
    let here = places slot in
    let whole : 327680 ≤ length new = omega arith in
    let has : HasBody old slot body sequence = assumption in
    let kept = kept_body same current.whole (λ i inside. outside i (omega arith)) has in
    let gate = kept_gate same (start slot) (outside (start slot) (omega arith)) ∙ current.gate in
    let layout_is = layout_stays old new slot current.layout_is gate (λ _ s _ opened. (opens s opened).0) in
    let greater : is_open new (start (other slot)) ≡ true → sequence_at new (start (other slot)) < sequence = λ opened.
    let was = opens (other slot) opened in let less = current.greater was.0 in omega arith in
    assumption

-- what happens to a slot while an image is put into it opens none
pub stage_opens : {target : Slot} {old new : List ℕ} → 327680 ≤ length old → Stages target old new → OpensNone old new
stage_opens {target} {new} whole stages slot opened = elim (same_or_apart slot target) [
  | inl is ↦ let behind = stages.behind (rw is at opened) in
      rw is (behind.0, kept_sequence behind.1 target whole (omega arith))
  | inr apart ↦
      let here = places slot in
      let kept = kept_head stages.same slot whole (omega arith) in
      (sym kept.0 ∙ opened, kept.1)
]

-- so it leaves the current image in another slot
pub stage_current : {slot target : Slot} {old new body : List ℕ} {sequence : ℕ} → IsApart slot target
    → IsCurrent old slot body sequence → Stages target old new → IsCurrent new slot body sequence
stage_current {slot} apart current stages =
    let here = places slot in
    kept_away current stages.same (omega arith) (stage_opens current.whole stages)

-- and open, the new image is the current one
pub published : {slot : Slot} {it : Prepared} {old new body : List ℕ} {sequence : ℕ} → IsCurrent old slot body sequence
    → HasPrepared old slot sequence it → SameBut (start it.slot) 1 old new → is_open new (start it.slot) ≡ true
    → IsCurrent new it.slot it.body it.sequence
unfolding layout_on
published {slot} {it} {old} {new} {sequence} current prepared same opened =
    let was : HasBody old it.slot it.body it.sequence = assumption in
    let has = kept_body same current.whole (omega arith) was in
    let kept : (s : Slot) → IsApart s it.slot
    → (is_open new (start s) ≡ is_open old (start s)) × (sequence_at new (start s) ≡ sequence_at old (start s)) =
    λ s apart. let here = places s in let there = places it.slot in kept_head same s current.whole (omega arith) in
    record {
      whole = omega arith;
      layout_is = grind (arith, prepared.beside, current.layout_is, kept First, kept Second, kept Third, kept Fourth);
      gate = opened;
      sequence_is = has.sequence_is;
      fits = has.fits;
      body_is = has.body_is;
      greater = elim prepared.beside [
        | inl next ↦
            let back : other it.slot ≡ slot = ap other next.0 ∙ other_other slot in
            let number = (kept slot (beside_apart slot sequence it prepared.beside)).1 in
            rw back (λ _. omega arith)
        | inr later ↦
            let apart : IsApart Fourth it.slot = rw later.1 (inr (omega arith)) in
            let shut = first_layout old (current.layout_is ∙ later.0) Fourth refl in
            rw later.1 (λ also. absurd (shut (sym (kept Fourth apart).0 ∙ also)))
      ];
    }

-- the first gate of its log stays 0
pub published_log : {target : Slot} {old new body : List ℕ} {sequence : ℕ} → IsPrepared old target body sequence
    → SameBut (start target) 1 old new → get_or new (start target + log_place (layout_of target)) 0 ≡ 0
published_log {target} prepared same = let here = places target in
    same.elsewhere _ (omega arith) ∙ prepared.log

-- Of the two slots of its layout this one is chosen, and there is no tie.
pub record IsChosen (bytes : List ℕ) (slot : Slot) : Type 0 where
  pub place : current_on bytes ≡ slot
  pub marked : is_marked bytes ≡ true
  pub untied : is_tied bytes (first_of (layout_on bytes)) ≡ false

-- a disk with an open gate is marked
pub marked : (bytes : List ℕ) (slot : Slot) → is_open bytes (start slot) ≡ true → is_marked bytes ≡ true
marked bytes slot here = grind arith

pub chosen : (bytes : List ℕ) (slot : Slot) → layout_on bytes ≡ layout_of slot → is_open bytes (start slot) ≡ true
    → (is_open bytes (start (other slot)) ≡ true
    → sequence_at bytes (start (other slot)) < sequence_at bytes (start slot)) → IsChosen bytes slot
chosen bytes slot layout here lesser = grind arith

-- where the bytes are long enough, they hold the image in that slot
pub chosen_stands : (bytes : List ℕ) (slot : Slot) → 327680 ≤ length bytes → IsChosen bytes slot
    → image_on bytes ≡ image_in bytes slot
unfolding image_on
chosen_stands bytes slot whole chosen =
    rw (le-ltb (length bytes) 327680 whole, chosen.marked, chosen.untied, chosen.place)

-- the slot of the current image is chosen
pub current_chosen : {slot : Slot} {bytes body : List ℕ} {sequence : ℕ} → IsCurrent bytes slot body sequence
    → IsChosen bytes slot
current_chosen {slot} {bytes} current = grind arith

-- the bytes stand for the current image
pub current_stands : {slot : Slot} {bytes body : List ℕ} {sequence : ℕ} → IsCurrent bytes slot body sequence
    → ShowsImage (layout_of slot) body sequence bytes
current_stands {slot} {bytes} current = chosen_stands bytes slot current.whole (current_chosen current) ∙ rw (
  le-leb (length_at bytes (start slot)) (longest (layout_of slot)) current.fits,
  current.body_is,
  current.sequence_is,
)

-- what was found, with its body
pub found_current : {slot : Slot} {bytes body : List ℕ} {sequence size : ℕ} → 327680 ≤ length bytes
    → IsFound bytes slot sequence size → body ≡ part (start slot + 13) size bytes → IsCurrent bytes slot body sequence
unfolding body_at
found_current {slot} {bytes} {body} whole found is = grind arith
