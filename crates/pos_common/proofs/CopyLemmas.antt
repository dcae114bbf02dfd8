-- What reading the copies of a scan comes to.
use Rattle.pos_common.proofs.Common.{All, All-head, All-tail, Control, HasRoom, KeptControl, List, Scan, ScanCopy, []}
use Rattle.pos_common.proofs.Common.{all_listening, arith, controls_of, copies_from, get_or, length, length-append}
use Rattle.pos_common.proofs.Common.{listens, read, refl, scan_events, set, ℕ, ◌++◌, ◌+◌, ◌<◌, ◌∷◌, ◌≡◌, ◌≤◌}
use Rattle.std.proofs.Common.{⊎_elim}
use Rattle.std.proofs.lemmas.Bool.{cases_Bool}
use Rattle.std.proofs.lemmas.List.{append_assoc, get_or_at, length_push, map-append, set_at}

-- A copy is for one of the held controls, which has room for its event. Once it has read the copy, this holds of all.
pub record ReadsFirst (copy : ScanCopy) (hs : List KeptControl) (After : List KeptControl → Type 0) : Type 0 where
  pub within : copy.control < length hs
  pub room : (d : KeptControl) → scan_events ≤ (get_or hs copy.control d).spare
  pub after : (d g : KeptControl) → g.control ≡ read copy.scan (get_or hs copy.control d).control
      → After (set hs copy.control g)

-- so it is for each of the copies in turn, and once all have been read, the machine's controls are these
abbrev pub Reads : List Control → List ScanCopy → List KeptControl → Type 0
Reads cs [] hs = controls_of hs ≡ cs
Reads cs (copy ∷ copies) hs = ReadsFirst copy hs (Reads cs copies)

-- the copies for held controls, which have others before them, can be read, and then each that listens has read it
pub all_read : (scan : Scan) (place n : ℕ) (front hs : List KeptControl) → length front ≡ n
    → All (HasRoom place scan_events) hs → Reads (controls_of front ++ all_listening place (read scan) (controls_of hs))
    (copies_from n scan place (controls_of hs)) (front ++ hs)
all_read scan place n front [] is room = map-append (λ (h : KeptControl). h.control) front []
all_read scan place n front (h ∷ hs) is room =
    let P = HasRoom place scan_events in
    let behind = all_listening place (read scan) (controls_of hs) in
    let copies = copies_from (n + 1) scan place (controls_of hs) in
    let next : (g : KeptControl) (c : Control) → g.control ≡ c
    → Reads (controls_of front ++ c ∷ behind) copies (front ++ g ∷ hs) = λ g c same. rw (← same) (rw (
      map-append (λ (x : KeptControl). x.control) front (g ∷ []),
      append_assoc front (g ∷ []) hs,
      append_assoc (controls_of front) (g.control ∷ []) behind,
    ) at (all_read scan place (n + 1) (front ++ g ∷ []) hs (omega (arith, length_push front g)) (All-tail P h hs room)))
    in
    ⊎_elim (λ yes. rw yes (record {
      within = omega (arith, length-append front (h ∷ hs));
      room = λ d. rw (get_or_at front h hs d n is) (All-head P h hs room yes);
      after = λ d g same. rw (set_at front h hs g n is)
          (next g (read scan h.control) (rw (get_or_at front h hs d n is) at same));
    })) (λ no. rw no (next h h.control refl)) (cases_Bool (listens place h.control))
