-- What the calls of a log leave of the images, and of the log span.
use Rattle.pos_image.proofs.Common.{DiskFault, DiskState, Err, Ghosts, HasPrepared, InRange, IsCurrent, IsHeld}
use Rattle.pos_image.proofs.Common.{IsInSpan, IsReady, IsWithin, IsWritable, KeepsImage, Layout, LeavesOnly, List}
use Rattle.pos_image.proofs.Common.{MatchOption, MayLeave, None, Ok, OnOk, Option, Prepared, Result, SameBut}
use Rattle.pos_image.proofs.Common.{ShowsImage, Slot, Some, Syncs, View, Watches, Writes, WritesOnly, WritesSpan, arith}
use Rattle.pos_image.proofs.Common.{cases_lt, current_on, get_or, get_or-part, goes_on, image_on, in_range, layout_of}
use Rattle.pos_image.proofs.Common.{le-ltb, leaves_within, length, length-part, length-splice, log_of, log_place}
use Rattle.pos_image.proofs.Common.{log_size, part, part-part, refl, slot_size, span_of, splice, splice_elsewhere}
use Rattle.pos_image.proofs.Common.{spliced_within, start, started, sym, weaker, within_here, within_write, ℕ, ⊤, ◌+◌}
use Rattle.pos_image.proofs.Common.{◌-◌, ◌<◌, ◌^◌, ◌↔◌, ◌∙◌, ◌≡◌, ◌≤◌}
use Rattle.std.proofs.lemmas.List.{ext_get_or, get_or_past}
use Rattle.pos_image.proofs.ChangeLemmas.{ready}
use Rattle.pos_image.proofs.CurrentImageLemmas.{HasBody, OpensNone, current_stands, kept_away, kept_body, kept_head}
use Rattle.pos_image.proofs.LogLemmas.{log_here}
use Rattle.pos_image.proofs.PlaceLemmas.{beside_apart, places}
use Rattle.pos_image.proofs.RefusalLemmas.{short_stands}
use Rattle.pos_image.proofs.StageLemmas.{so_ok}

-- where the log of a slot begins
abbrev pub log_start : Slot → ℕ
log_start slot = start slot + log_place (layout_of slot)

-- bytes that differ in the log span of a slot alone
module _ (slot : Slot) (old new : List ℕ) (whole : 327680 ≤ length old)
    (same : SameBut (log_start slot) (log_size (layout_of slot)) old new) where
  -- nothing of an image lies there
  unreached : (s : Slot) (i : ℕ) → InRange (start s) (log_place (layout_of s)) i
      → ¬ (InRange (log_start slot) (log_size (layout_of slot)) i)
  unreached s i inside hit = grind arith

  -- so no slot is opened
  opens_none : OpensNone old new
  opens_none s opened =
      let kept = kept_head same s whole (λ i inside. let here = places s in unreached s i (omega arith)) in
      (sym kept.0 ∙ opened, kept.1)

  -- an image in any slot that is the current one stays so
  pub any_current : {s : Slot} {body : List ℕ} {sequence : ℕ} → IsCurrent old s body sequence
      → IsCurrent new s body sequence
  any_current {s = s} current = kept_away current same (unreached s) opens_none

  -- the current image is there
  log_current : {body : List ℕ} {sequence : ℕ} → IsCurrent old slot body sequence → IsCurrent new slot body sequence
  log_current current = kept_away current same (unreached slot) opens_none

  -- and the one that is prepared
  log_prepared : (sequence : ℕ) (it : Prepared) → HasPrepared old slot sequence it → HasPrepared new slot sequence it
  log_prepared sequence it prepared =
      let there = prepared.there in
      let here = places it.slot in
      let current = places slot in
      let was : HasBody old it.slot it.body it.sequence = assumption in
      let gate = (kept_head same it.slot whole (λ i inside. unreached it.slot i (omega arith))).0 ∙ there.gate in
      let has = kept_body same whole (λ i inside. unreached it.slot i (omega arith)) was in
      let apart = beside_apart slot sequence it prepared.beside in
      let log = same.elsewhere (log_start it.slot) (omega arith) ∙ there.log in
      assumption

  -- if there is one
  still_prepared : (prepared : Option Prepared) (sequence : ℕ) → MatchOption prepared ⊤ (HasPrepared old slot sequence)
      → MatchOption prepared ⊤ (HasPrepared new slot sequence)
  still_prepared None sequence is = tt
  still_prepared (Some it) sequence is = log_prepared sequence it is

-- the log span of the current slot, place by place
module _ {slot : Slot} {bytes body : List ℕ} {sequence : ℕ} (current : IsCurrent bytes slot body sequence) where
  pub span_fits : log_start slot + log_size (layout_of slot) ≤ length bytes
  span_fits = let here = places slot in let whole = current.whole in omega arith

  -- it is whole
  pub span_length : length (log_of bytes) ≡ log_size (layout_of slot)
  span_length = rw (log_here current) (length-part (log_start slot) (log_size (layout_of slot)) bytes span_fits)

  -- it has the bytes of the disk
  span_place : (i : ℕ) → i < log_size (layout_of slot) → get_or (log_of bytes) i 0 ≡ get_or bytes (log_start slot + i) 0
  span_place i inside = rw (log_here current)
      (get_or-part (log_start slot) (log_size (layout_of slot)) bytes i _ refl inside)

  -- and none behind them
  span_past : (i : ℕ) → log_size (layout_of slot) ≤ i → get_or (log_of bytes) i 0 ≡ 0
  span_past i past = get_or_past (log_of bytes) i 0 (omega (arith, span_length))

  -- its parts are parts of the disk
  pub span_part : (at n : ℕ) → log_place (layout_of slot) ≤ at → at + n ≤ slot_size (layout_of slot)
      → part (start slot + at) n bytes ≡ part (at - log_place (layout_of slot)) n (log_of bytes)
  span_part at n from to =
      let here = places slot in
      rw (log_here current) (part-part (log_start slot) (log_size (layout_of slot)) (at - log_place (layout_of slot)) n
      (start slot + at) bytes (omega arith) (omega arith) span_fits)

-- spans agree where the disks do
pub spans_agree : {slot : Slot} {old new body : List ℕ} {sequence : ℕ} → IsCurrent old slot body sequence
    → IsCurrent new slot body sequence → (i : ℕ)
    → (i < log_size (layout_of slot) → get_or new (log_start slot + i) 0 ≡ get_or old (log_start slot + i) 0)
    → get_or (log_of new) i 0 ≡ get_or (log_of old) i 0
spans_agree {slot} was is i agree = grind (
  arith,
  cases_lt i (log_size (layout_of slot)),
  span_place is i,
  span_place was i,
  span_past is i,
  span_past was i,
)

-- A write into the log span of images that a disk holds: the place is counted from the gate of the slot.
pub record WritesLog {D T : Type 0} (images : View D) (old new : DiskState) (at : ℕ) (bytes : List ℕ)
    (result : Result T DiskFault) : Type 0 where
  pub held : IsHeld old images
  pub only : (c : List ℕ) → old.left_since old.moment c → MayLeave old c
  pub inside : IsInSpan (layout_of images.slot) at (length bytes)
  pub writes : Writes old new (start images.slot + at) bytes result

-- a write leaves all else of the disk
pub writes_only : {T : Type 0} {old new : DiskState} {at : ℕ} {bytes : List ℕ} {result : Result T DiskFault}
    → Writes old new at bytes result → WritesOnly at (length bytes) old new
writes_only writes = record {
  same = record { same_length = writes.same_length; elsewhere = writes.elsewhere };
  loose = λ i. (writes.loose i, writes.reached i);
}

module _ {D : Type 0} {images : View D} where
  -- a crash leaves the current image, and of its log what is settled
  keeps_image : {state : DiskState} → IsHeld state images → (c : List ℕ) → MayLeave state c
      → KeepsImage images (span_of images state) c
  keeps_image {state} held c may =
      let same = leaves_within (within_here held.loose) c may in
      let current = log_current images.slot state.reading c held.current.whole same held.current in
      let image = current_stands current in
      grind (arith, span_length current, span_length held.current, spans_agree held.current current)

  -- so does a crash while the disk is looked at or synced
  pub watched_image : {old new : DiskState} → IsHeld old images → Watches old new
      → LeavesOnly old new (KeepsImage images (span_of images old))
  watched_image held watches = weaker _ _ _ _ (keeps_image held) watches.any_moment

  -- a write into the log
  module _ {T : Type 0} {old new : DiskState} {at : ℕ} {bytes : List ℕ} {result : Result T DiskFault}
      (wrote : WritesLog images old new at bytes result) where
    -- where it begins in the span
    abbrev place : ℕ
    place = at - log_place (layout_of images.slot)

    -- a write leaves the images held
    pub write_held : IsHeld new images
    write_held =
        let held = wrote.held in
        let here = places images.slot in
        let within : IsWithin old.reading (log_start images.slot) (log_size (layout_of images.slot)) new =
        within_write result (within_here held.loose) (omega (arith, wrote.inside.from))
        (omega (arith, wrote.inside.to)) wrote.writes in
        let whole = held.current.whole in
        record {
          loose = within.loose;
          current = log_current images.slot old.reading new.reading whole within.same held.current;
          prepared = still_prepared images.slot old.reading new.reading whole within.same images.prepared
              images.sequence held.prepared;
        }

    -- the span differs in the range of the write alone
    elsewhere : (i : ℕ) → ¬ (InRange place (length bytes) i)
        → get_or (log_of new.reading) i 0 ≡ get_or (log_of old.reading) i 0
    elsewhere i missed = spans_agree wrote.held.current write_held.current i
        (λ _. wrote.writes.elsewhere (log_start images.slot + i) (λ hit. missed (omega (arith, wrote.inside.from))))

    -- where the disk has the new bytes, the span has them
    written : new.reading ≡ splice old.reading (start images.slot + at) bytes
        → log_of new.reading ≡ splice (log_of old.reading) place bytes
    written is =
        let here = places images.slot in
        let inside = wrote.inside in
        let whole = wrote.held.current.whole in
        let long = span_length wrote.held.current in
        let fits : place + length bytes ≤ length (log_of old.reading) = omega arith in
        let spliced = length-splice (log_of old.reading) bytes place fits in
        ext_get_or 0 (log_of new.reading) (splice (log_of old.reading) place bytes)
        (span_length write_held.current ∙ sym long ∙ sym spliced)
        (λ i less. let range = in_range place (length bytes) i in let same = elsewhere i in
        let there = spliced_within 0 old.reading bytes (start images.slot + at) (log_start images.slot + i) in
        let now = span_place write_held.current i in
        grind (
          arith,
          spliced_within 0 (log_of old.reading) bytes place i,
          splice_elsewhere (log_of old.reading) bytes place i,
        ))

    -- so it is a write into the span
    pub writes_span : {X E : Type 0} (answer : Result X E)
        → OnOk answer (new.reading ≡ splice old.reading (start images.slot + at) bytes)
        → WritesSpan (span_of images old) (span_of images new) place bytes answer
    writes_span answer is = record {
      written = so_ok answer _ _ written is;
      same_length = span_length write_held.current ∙ sym (span_length wrote.held.current);
      elsewhere = elsewhere;
      loose = λ i loose. let inside = wrote.inside in grind (arith, wrote.writes.loose (log_start images.slot + i));
    }

    -- at any moment of it a crash leaves what one after it may leave
    pub write_moments : LeavesOnly old new (KeepsImage images (span_of images new))
    write_moments =
        let here = keeps_image write_held in
        let still : (c : List ℕ) → MayLeave old c → MayLeave new c = λ c may. let writes = wrote.writes in
        grind arith in
        goes_on old old new _ (started old _ (λ c left. here c (still c (wrote.only c left)))) wrote.writes.time here

  -- a disk that was only looked at or synced still holds them
  pub looked_held : {old new : DiskState} → IsHeld old images → new.reading ≡ old.reading
      → ((i : ℕ) → new.loose i → old.loose i) → IsHeld new images
  looked_held held same loose = rw same record {
    loose = λ i is. held.loose i (loose i is);
    current = held.current;
    prepared = held.prepared;
  }

-- images that a disk holds are writable
pub writable : {D : Type 0} (bound : Ghosts D) (images : View D) → 327680 ≤ bound.size images.disk
    → images.sequence < 2 ^ 64 → (bound.honest images.disk → IsHeld (bound.state images.disk) images)
    → IsWritable bound images
writable bound images large counted held =
    let leaves = λ (honest : bound.honest images.disk). keeps_image (held honest) in assumption

-- writable images are ready after a sync
pub synced : {D : Type 0} (bound : Ghosts D) (images : View D) (disk : D) (result : Result (Unit {0}) DiskFault)
    → IsWritable bound images → bound.size disk ≡ bound.size images.disk → (bound.honest images.disk
    ↔ bound.honest disk) → (bound.honest images.disk → Syncs (bound.state images.disk) (bound.state disk) result)
    → OnOk result (IsReady bound (record images { disk = disk }))
synced bound images disk (Err fault) was size honest syncs = tt
synced bound images disk (Ok done) was size honest syncs =
    ready bound (record images { disk = disk }) (omega (arith, was.large, size)) was.counted (λ now.
    let before = honest.1 now in
    let held = looked_held {new = bound.state disk} (was.held before) (syncs before).reading (syncs before).loose in
    record { at_rest = (syncs before).at_rest; current = held.current; prepared = held.prepared })

-- bytes that hold an image are of its layout
shown_layout : (layout : Layout) (body : List ℕ) (sequence : ℕ) (bytes : List ℕ) → ShowsImage layout body sequence bytes
    → 327680 ≤ length bytes → layout_of (current_on bytes) ≡ layout
unfolding image_on
shown_layout layout body sequence bytes shows whole = grind (arith, le-ltb (length bytes) 327680 whole)

-- behind an image there is a whole span
pub image_length : (layout : Layout) (body : List ℕ) (sequence : ℕ) (bytes : List ℕ)
    → ShowsImage layout body sequence bytes → length (log_of bytes) ≡ log_size layout
unfolding log_of
image_length layout body sequence bytes shows = grind (arith, cases_lt, short_stands, places, length-part, shown_layout)
