-- What a change of the images leaves where places of the current log are loose.
use Rattle.pos_image.proofs.Common.{HasEither, HasImage, HasNewImage, HasPrepared, InRange, IsAtRest, IsBeside}
use Rattle.pos_image.proofs.Common.{IsCurrent, IsHeld, KeepsImage, LeavesOnly, List, Prepared, SameAside, SameBut, Slot}
use Rattle.pos_image.proofs.Common.{Some, Stages, StagesAside, View, ap, arith, cases_Bool, false, get_or, image_of}
use Rattle.pos_image.proofs.Common.{in_range, inl, inr, is_open, layout_of, length, length-part, length-splice, log_of}
use Rattle.pos_image.proofs.Common.{log_place, log_size, next_of, part, prepared_or, get_or-part, span_of, splice}
use Rattle.pos_image.proofs.Common.{splice_elsewhere, spliced_within, start, sym, true, weaker, ℕ, ◌+◌, ◌-◌, ◌∙◌, ◌≡◌}
use Rattle.pos_image.proofs.Common.{◌≤◌}
use Rattle.std.proofs.lemmas.List.{ext_get_or}
use Rattle.pos_image.proofs.CurrentImageLemmas.{current_stands, published, published_log, stage_current}
use Rattle.pos_image.proofs.LogLemmas.{new_image}
use Rattle.pos_image.proofs.PlaceLemmas.{IsApart, beside_apart, places}
use Rattle.pos_image.proofs.SpanLemmas.{any_current, log_start, span_length, spans_agree}
use Rattle.pos_disk.specs.State.{DiskState}

-- Bytes that a crash left, of which those at loose places of a log span may be any.
pub record IsAside (slot : Slot) (loose : ℕ → Type 0) (old c : List ℕ) : Type 0 where
  pub within : (i : ℕ) → loose i → InRange (log_start slot) (log_size (layout_of slot)) i
  pub whole : 327680 ≤ length old
  pub long : length c ≡ length old

module _ {slot : Slot} {loose : ℕ → Type 0} {old c : List ℕ} (aside : IsAside slot loose old c) where
  -- the same bytes with the log span as it was
  abbrev pub mended : List ℕ
  mended = splice c (log_start slot) (part (log_start slot) (log_size (layout_of slot)) old)

  span_is : length (part (log_start slot) (log_size (layout_of slot)) old) ≡ log_size (layout_of slot)
  span_is = let here = places slot in let whole = aside.whole in
      length-part (log_start slot) (log_size (layout_of slot)) old (omega arith)

  room : log_start slot + length (part (log_start slot) (log_size (layout_of slot)) old) ≤ length c
  room = let here = places slot in let whole = aside.whole in let long = aside.long in omega (arith, span_is)

  mended_long : length mended ≡ length old
  mended_long = length-splice c (part (log_start slot) (log_size (layout_of slot)) old) (log_start slot) room
      ∙ aside.long

  -- within the span they are as before
  mended_within : (i : ℕ) → InRange (log_start slot) (log_size (layout_of slot)) i → get_or mended i 0 ≡ get_or old i 0
  mended_within i inside =
      let there = spliced_within 0 c (part (log_start slot) (log_size (layout_of slot)) old) (log_start slot) i room
      (omega (arith, span_is)) in
      there ∙ get_or-part (log_start slot) (log_size (layout_of slot)) old (i - log_start slot) i (omega arith)
      (omega arith)

  -- and elsewhere as they were left
  mended_elsewhere : (i : ℕ) → ¬ (InRange (log_start slot) (log_size (layout_of slot)) i)
      → get_or mended i 0 ≡ get_or c i 0
  mended_elsewhere i outside = splice_elsewhere c (part (log_start slot) (log_size (layout_of slot)) old)
      (log_start slot) i room (λ hit. outside (omega (arith, span_is)))

  -- what was left differs from them in the span alone
  left_same : SameBut (log_start slot) (log_size (layout_of slot)) mended c
  left_same = record {
    same_length = aside.long ∙ sym mended_long;
    elsewhere = λ i outside. sym (mended_elsewhere i outside);
  }

  -- where only a range differed beside what was loose, only that range differs of them
  pub mended_same : (at n : ℕ) → SameAside loose at n old c → SameBut at n old mended
  mended_same at n same = record {
    same_length = mended_long;
    elsewhere = λ i outside. elim (in_range (log_start slot) (log_size (layout_of slot)) i) [
      | inl inside ↦ mended_within i inside
      | inr beside ↦ mended_elsewhere i beside ∙ same.elsewhere i outside (λ is. beside (aside.within i is))
    ];
  }

  -- what is the current image of them is that of what was left
  pub left_current : {s : Slot} {body : List ℕ} {sequence : ℕ} → IsCurrent mended s body sequence
      → IsCurrent c s body sequence
  left_current current = any_current slot mended c (omega (arith, mended_long, aside.whole)) left_same current

  module _ (target : Slot) (apart : IsApart slot target) where
    -- a gate of another slot
    gate_same : is_open mended (start target) ≡ is_open c (start target)
    gate_same = let here = places slot in let there = places target in
        rw (mended_elsewhere (start target) (omega arith))

    -- no more happened to another slot
    mended_stages : StagesAside loose target old c → Stages target old mended
    mended_stages stages = record {
      same = mended_same _ _ stages.same;
      behind = λ opened. let was = stages.behind (sym gate_same ∙ opened) in (was.0, mended_same _ _ was.1);
    }

module _ {D : Type 0} {images : View D} {state : DiskState} (held : IsHeld state images) (c : List ℕ) where
  -- what a crash left
  aside : length c ≡ length state.reading → IsAside images.slot state.loose state.reading c
  aside long = record { within = held.loose; whole = held.current.whole; long = long }

  -- while an image is put beside the current one
  pub stage_keeps : (target : Slot) → IsApart images.slot target → StagesAside state.loose target state.reading c
      → KeepsImage images (span_of images state) c
  stage_keeps target apart stages =
      let a = aside stages.same.same_length in
      let now : IsCurrent c images.slot images.body images.sequence =
      left_current a (stage_current apart held.current (mended_stages a target apart stages)) in
      let here = places images.slot in
      record {
        image = current_stands now;
        log = record {
          same_length = span_length now ∙ sym (span_length held.current);
          settled = λ i tight. spans_agree held.current now i
              (λ inside. stages.same.elsewhere (log_start images.slot + i)
              (λ hit. absurd (omega (arith, apart, hit, inside))) tight);
        };
      }

  module _ (it : Prepared) (prepared : HasPrepared state.reading images.slot images.sequence it)
      (same : SameAside state.loose (start it.slot) 1 state.reading c) where
    apart : IsApart images.slot it.slot
    apart = beside_apart images.slot images.sequence it prepared.beside

    -- while its gate is written, closed, no more happens
    shut_aside : is_open c (start it.slot) ≡ false → StagesAside state.loose it.slot state.reading c
    shut_aside shut = record {
      same = record {
        same_length = same.same_length;
        elsewhere = λ i outside tight. same.elsewhere i
            (λ hit. outside (let here = places it.slot in omega arith)) tight;
      };
      behind = λ opened. absurd cc;
    }

    -- and open, the new image is the current one
    opened_aside : is_open c (start it.slot) ≡ true → HasNewImage (layout_of it.slot) it.body it.sequence c
    opened_aside opened =
        let a = aside same.same_length in
        let mended = mended_same a (start it.slot) 1 same in
        let now : IsCurrent c it.slot it.body it.sequence =
        left_current a (published held.current prepared mended (gate_same a it.slot apart ∙ opened)) in
        let here = places images.slot in
        let there = places it.slot in
        let beside = mended_elsewhere a (start it.slot + log_place (layout_of it.slot))
        (λ hit. absurd (omega (arith, apart, hit))) in
        new_image now (sym beside ∙ published_log prepared.there mended)

    -- at any moment while the gate of the prepared image is opened
    pub publish_keeps : HasEither images (span_of images state) it c
    publish_keeps = elim (cases_Bool (is_open c (start it.slot))) [
      | inl opened ↦ inr (opened_aside opened)
      | inr shut ↦ inl (stage_keeps it.slot apart (shut_aside shut))
    ]

-- so it is at any moment of a call
pub beside_leaves : {D : Type 0} (old : View D) (state now : DiskState) (it : Prepared)
    → IsBeside old.slot old.sequence it → IsHeld state old
    → LeavesOnly state now (StagesAside state.loose it.slot state.reading)
    → LeavesOnly state now (KeepsImage old (span_of old state))
beside_leaves old state now it beside held moments = weaker _ _ _ _
    (λ c stages. stage_keeps held c it.slot (beside_apart old.slot old.sequence it beside) stages) moments

pub publish_leaves : {D : Type 0} (old : View D) (state now : DiskState) (it : Prepared) → old.prepared ≡ Some it
    → IsHeld state old → (at : ℕ) → at ≡ start it.slot → LeavesOnly state now (SameAside state.loose at 1 state.reading)
    → LeavesOnly state now (HasEither old (span_of old state) (next_of old))
publish_leaves old state now it is_next held at at_is moments =
    let next_is : next_of old ≡ it = ap (prepared_or (image_of old.slot old.body old.sequence)) is_next in
    let there : HasPrepared state.reading old.slot old.sequence it = rw is_next at held.prepared in
    rw next_is (weaker _ _ _ _ (λ c same. publish_keeps held c it there same) (rw at_is at moments))

-- a crash of a disk at rest leaves the whole log of the image
pub whole_image : {D : Type 0} (images : View D) (state : DiskState) (c : List ℕ) → IsAtRest state
    → KeepsImage images (span_of images state) c
    → HasImage (layout_of images.slot) images.body images.sequence (log_of state.reading) c
whole_image images state c rest keeps = record {
  image = keeps.image;
  log = ext_get_or 0 (log_of c) (log_of state.reading) keeps.log.same_length (λ i inside. keeps.log.settled i (rest _));
}
