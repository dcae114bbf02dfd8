-- A call more of a mirror.
use Rattle.pos_disk.proofs.Common.{Elapses, Err, IsAtRest, List, MayLeave, Memory, Ok, Reads, Spoils, Syncs, Writes}
use Rattle.pos_disk.proofs.Common.{arith, false, fresh, length, part, refl, state_of, sym, synced, true, written, ℕ}
use Rattle.pos_disk.proofs.Common.{◌+◌, ◌<◌, ◌^◌, ◌↔◌, ◌≡◌, ◌≤◌}
use Rattle.std.proofs.Common.{ap, subst}
use Rattle.pos_disk.proofs.MomentLemmas.{no_time}
use Rattle.pos_disk.specs.Fuse.{counted}
use Rattle.pos_disk.specs.State.{Answer}
use Rattle.pos_disk.specs.Unkept.{is_fault}
use Rattle.pos_disk.specs.declared.device.Disk.{Ghosts}
use Rattle.pos_mirror.specs.Calls.{FollowsOn, Rereads}
use Rattle.pos_mirror.specs.Mirror.{Covers, Follows, IsMirror, Makes, Mirror, Shows, begun, counts_mirrored, found}
use Rattle.pos_mirror.specs.Mirror.{ignored, mirror_of, mirror_state, settled, unread, unsettled, wrote}
use Rattle.pos_mirror.proofs.CallLemmas.{spoils_of, time_under}
use Rattle.pos_mirror.proofs.MirrorLemmas.{covers_both, covers_looked, covers_memory, covers_sync, follows_on}
use Rattle.pos_mirror.proofs.MirrorLemmas.{follows_read, shows_found, shows_lost, shows_read, shows_synced}
use Rattle.pos_mirror.proofs.MirrorLemmas.{shows_written}

module _ {D : Type 0} (bound : Ghosts D)
    (whole : (disk : D) → bound.honest disk → length (bound.state disk).reading ≡ bound.size disk) where
  -- what a crash leaves, after both disks went on
  follow : (old new : Mirror D) → bound.honest new.below → length new.memory.present.reading ≤ bound.size new.below
      → Elapses (bound.state old.below) (bound.state new.below) → Elapses (state_of old.memory) (state_of new.memory)
      → length new.memory.present.reading ≡ length old.memory.present.reading
      → Covers (bound.state new.below) (state_of new.memory) → (s t : ℕ)
      → Follows (bound.state old.below) s (mirror_state old) t → Follows (bound.state new.below) s (mirror_state new) t
  follow old new honest fits below memory long covers s t follows =
      follows_on below (time_under old.failures new.failures memory) (counts_mirrored new t) long
      (omega (arith, fits, whole new.below honest)) covers follows

  -- what holds after a call
  After : Mirror D → Mirror D → Type 0
  After old new = IsMirror bound new × (bound.honest old.below → FollowsOn bound old new)

  -- it does where memory shows what the disk below has, and both made the call
  after : (old new : Mirror D) → IsMirror bound old → length new.memory.present.reading ≤ bound.size new.below
      → new.failures < 2 ^ 64 → bound.honest old.below ↔ bound.honest new.below
      → (bound.honest old.below → Shows (bound.state new.below) (state_of new.memory) new.lost) → ((first : D)
      → Makes bound first old.below old.memory old.lost → Makes bound first new.below new.memory new.lost)
      → (bound.honest old.below → (s t : ℕ) → Follows (bound.state old.below) s (mirror_state old) t
      → Follows (bound.state new.below) s (mirror_state new) t) → After old new
  unfolding After
  after old new is fits last honest shows makes on = (
    record {
      fits = fits;
      last = last;
      shows = λ h. shows (honest.1 h);
      history = record {
        first = is.history.first;
        makes = makes is.history.first is.history.makes;
        follows = λ h. on (honest.1 h) (bound.state is.history.first).moment 0 (is.history.follows (honest.1 h));
      };
    },
    λ h. record { honest = honest.0 h; follows = on h },
  )

  -- a write of a lost mirror
  pub lost_write : {m n : Memory} {b : D} {f at : ℕ} {bytes : List ℕ} {put : Answer}
      → IsMirror bound (mirror_of m b f true) → at + length bytes ≤ length m.present.reading → n ≡ written at bytes m
      → Writes (state_of m) (state_of n) at bytes put → IsMirror bound (mirror_of n b (counted f) true)
      × (bound.honest b → FollowsOn bound (mirror_of m b f true) (mirror_of n b (counted f) true))
  unfolding After
  lost_write {m = m} {n = n} {b = b} {f = f} {at = at} {bytes = bytes} is fits same writes =
      let old : Mirror D = mirror_of m b f true in
      let new : Mirror D = mirror_of n b (counted f) true in
      let spoils = spoils_of writes in
      let covers : bound.honest b → Covers (bound.state b) (state_of n) =
      λ h. covers_memory (bound.state b) spoils (is.shows h).covers in
      let room : length n.present.reading ≤ bound.size b = omega (arith, is.fits, spoils.same_length) in
      after old new is room (omega (arith, is.last)) (λ h. h, λ h. h)
      (λ h. shows_lost (covers h))
      (λ first makes. subst (λ k. Makes bound first b k true) (sym same) (ignored b m at bytes fits makes))
      (λ h. follow old new h room (no_time (bound.state b)) spoils.time spoils.same_length (covers h))

  -- a call of the disk below
  module _ {m n : Memory} {b c : D} {f : ℕ} (is : IsMirror bound (mirror_of m b f false))
      (size : bound.size c ≡ bound.size b) (honest : bound.honest b ↔ bound.honest c) where
    -- a write that succeeded
    pub written_on : {at : ℕ} {bytes : List ℕ} {first put : Answer} → first ≡ Ok tt → put ≡ Ok tt
        → at + length bytes ≤ length m.present.reading
        → (bound.honest b → Writes (bound.state b) (bound.state c) at bytes first) → bound.own_write b c at bytes first
        → n ≡ written at bytes m → Writes (state_of m) (state_of n) at bytes put → IsMirror bound
        (mirror_of n c f false) × (bound.honest b → FollowsOn bound (mirror_of m b f false) (mirror_of n c f false))
    unfolding After
    written_on {at = at} {bytes = bytes} {first = first} {put = put} done did fits below own same writes =
        let old : Mirror D = mirror_of m b f false in
        let new : Mirror D = mirror_of n c f false in
        let spoils = spoils_of writes in
        let room : length n.present.reading ≤ bound.size c = omega (arith, is.fits, spoils.same_length, size) in
        let shows : bound.honest b → Shows (bound.state c) (state_of n) false =
        λ h. shows_written done did (omega (arith, fits, is.fits, whole b h)) fits (below h) writes (is.shows h) in
        after old new is room is.last honest shows
        (λ first makes. subst (λ k. Makes bound first c k false) (sym same)
        (wrote b c m at bytes fits makes (rw done at own)))
        (λ h. follow old new (honest.0 h) room (below h).time spoils.time spoils.same_length (shows h).covers)

    -- a sync that succeeded
    pub settled_on : {first put : Answer} → first ≡ Ok tt
        → (bound.honest b → Syncs (bound.state b) (bound.state c) first) → bound.own_sync b c first → n ≡ synced m
        → Syncs (state_of m) (state_of n) put → IsMirror bound (mirror_of n c f false)
        × (bound.honest b → FollowsOn bound (mirror_of m b f false) (mirror_of n c f false))
    unfolding After
    settled_on done below own same syncs =
        let old : Mirror D = mirror_of m b f false in
        let new : Mirror D = mirror_of n c f false in
        let long : length n.present.reading ≡ length m.present.reading = ap length syncs.reading in
        let room : length n.present.reading ≤ bound.size c = omega (arith, is.fits, long, size) in
        let shows : bound.honest b → Shows (bound.state c) (state_of n) false =
        λ h. shows_synced (rw done at (below h).at_rest) (below h).reading syncs.reading (is.shows h) in
        after old new is room is.last honest shows
        (λ first makes. subst (λ k. Makes bound first c k false) (sym same) (settled b c m makes (rw done at own)))
        (λ h. follow old new (honest.0 h) room (below h).time syncs.time long (shows h).covers)

  -- a sync that failed
  pub unsettled_on : {m : Memory} {b c : D} {f : ℕ} {first : Answer} → IsMirror bound (mirror_of m b f false)
      → bound.size c ≡ bound.size b → bound.honest b ↔ bound.honest c → first ≡ Err record {}
      → (bound.honest b → Syncs (bound.state b) (bound.state c) first) → bound.own_sync b c first
      → IsMirror bound (mirror_of m c (counted f) true)
      × (bound.honest b → FollowsOn bound (mirror_of m b f false) (mirror_of m c (counted f) true))
  unfolding After
  unsettled_on {m = m} {b = b} {c = c} {f = f} {first = first} is size honest failed below own =
      let old : Mirror D = mirror_of m b f false in
      let new : Mirror D = mirror_of m c (counted f) true in
      let room : length m.present.reading ≤ bound.size c = omega (arith, is.fits, size) in
      let covers : bound.honest b → Covers (bound.state c) (state_of m) =
      λ h. covers_sync (state_of m) (below h) (is.shows h).covers in
      after old new is room (omega (arith, is.last)) honest (λ h. shows_lost (covers h))
      (λ first makes. unsettled b c m makes (rw failed at own))
      (λ h. follow old new (honest.0 h) room (below h).time (no_time (state_of m)) refl (covers h))

  -- a write that failed, and the read of its range
  module _ {m n : Memory} {b mid c : D} {f at : ℕ} {bytes : List ℕ} (is : IsMirror bound (mirror_of m b f false))
      (fits : at + length bytes ≤ length m.present.reading)
      (spoils : Spoils (state_of m) (state_of n) at (length bytes)) where
    reread_makes : (first : D) (again : Answer) → Rereads bound mid c at (length bytes) m n again
        → bound.own_write b mid at bytes (Err record {}) → Makes bound first b m false
        → Makes bound first c n (is_fault again)
    reread_makes first (Ok u) rereads own makes = subst (λ k. Makes bound first c k false) (sym rereads.shown)
        (found b mid c m at bytes (part at (length bytes) m.present.reading) rereads.left fits rereads.same_length makes
        own rereads.read)
    reread_makes first (Err e) rereads own makes = subst (λ k. Makes bound first c k true) (sym rereads.shown)
        (unread b mid c m at bytes (part at (length bytes) m.present.reading) rereads.left fits rereads.same_length
        makes own rereads.read)

    reread_shows : (first again : Answer) → Rereads bound mid c at (length bytes) m n again → bound.honest b
        → bound.honest mid → Writes (bound.state b) (bound.state mid) at bytes first
        → Shows (bound.state c) (state_of n) (is_fault again)
    reread_shows first (Ok u) rereads start then below =
        shows_found (Ok u) refl rereads.same_length (rw rereads.same_length fits) below (rereads.reads then) spoils
        (ap (λ (k : Memory). k.present.reading) rereads.shown) (is.shows start)
    reread_shows first (Err e) rereads start then below =
        shows_lost (covers_looked (state_of n) (rereads.reads then) (covers_both (bound.state b) (bound.state mid)
        (state_of m) (state_of n) at (length bytes) (spoils_of below) spoils (is.shows start).covers))

    pub reread_on : {first again : Answer} → first ≡ Err record {} → bound.size mid ≡ bound.size b
        → bound.size c ≡ bound.size mid → bound.honest b ↔ bound.honest mid → bound.honest mid ↔ bound.honest c
        → (bound.honest b → Writes (bound.state b) (bound.state mid) at bytes first)
        → bound.own_write b mid at bytes first → Rereads bound mid c at (length bytes) m n again
        → IsMirror bound (mirror_of n c (counted f) (is_fault again))
        × (bound.honest b → FollowsOn bound (mirror_of m b f false) (mirror_of n c (counted f) (is_fault again)))
    unfolding After
    reread_on {first = first} {again = again} failed size_mid size honest_mid honest below own rereads =
        let old : Mirror D = mirror_of m b f false in
        let half : Mirror D = mirror_of n mid f false in
        let new : Mirror D = mirror_of n c (counted f) (is_fault again) in
        let room_mid : length n.present.reading ≤ bound.size mid =
        omega (arith, is.fits, spoils.same_length, size_mid) in
        let room : length n.present.reading ≤ bound.size c = omega (arith, room_mid, size) in
        let covers : bound.honest b → Covers (bound.state mid) (state_of n) =
        λ h. covers_both (bound.state b) (bound.state mid) (state_of m) (state_of n)
        at (length bytes) (spoils_of (below h)) spoils (is.shows h).covers in
        let shows : bound.honest b → Shows (bound.state c) (state_of n) (is_fault again) =
        λ h. reread_shows first again rereads h (honest_mid.0 h) (below h) in
        after old new is room (omega (arith, is.last))
        (λ h. honest.0 (honest_mid.0 h), λ h. honest_mid.1 (honest.1 h)) shows
        (λ start makes. reread_makes start again rereads (rw failed at own) makes)
        (λ h s t follows. follow half new (honest.0 (honest_mid.0 h)) room (rereads.reads (honest_mid.0 h)).time
        (no_time (state_of n)) refl (shows h).covers s t (follow old half (honest_mid.0 h) room_mid (below h).time
        spoils.time spoils.same_length (covers h) s t follows))

  -- a new mirror
  pub opened : ((disk : D) (bytes : List ℕ) → bound.honest disk
      → (bound.state disk).left_since (bound.state disk).moment bytes → MayLeave (bound.state disk) bytes)
      → (a b c : D) (before bytes : List ℕ) (first put : Answer) → first ≡ Ok tt → put ≡ Ok tt
      → bound.honest a ↔ bound.honest b → bound.honest b ↔ bound.honest c
      → (bound.honest a → Syncs (bound.state a) (bound.state b) first)
      → (bound.honest b → Reads (bound.state b) (bound.state c) 0 bytes put) → bound.own_read b c 0 before bytes put
      → length bytes ≤ bound.size b → bound.size c ≡ bound.size b → IsMirror bound (mirror_of (fresh bytes) c 0 false)
  opened only a b c before bytes first put done did honest_b honest below reads own fits size =
      let rest : bound.honest c → IsAtRest (bound.state b) =
      λ h. rw done at (below (honest_b.1 (honest.1 h))).at_rest in
      let room : bound.honest c → length bytes ≤ length (bound.state b).reading =
      λ h. omega (arith, fits, whole b (honest.1 h)) in
      let over : bound.honest c → Follows (bound.state c) (bound.state b).moment (state_of (fresh bytes)) 0 =
      λ h. follows_read (bound.state b) (bound.state c) bytes put tt did (rest h) (room h) (reads (honest.1 h))
      (λ left. only b left (honest.1 h)) in
      record {
        fits = omega (arith, fits, size);
        last = omega arith;
        shows = λ h. shows_read (bound.state b) (bound.state c) bytes put tt did (rest h) (room h) (reads (honest.1 h));
        history = record {
          first = b;
          makes = begun c before bytes (rw did at own);
          follows = λ h. record {
            later_below = (over h).later_below;
            later = (over h).later;
            leaves = (over h).leaves;
          };
        };
      }
