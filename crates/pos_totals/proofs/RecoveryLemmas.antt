-- What a recovery of the totals did, by what the store found and the handles that were left.
use Rattle.pos_totals.proofs.Common.{Err, FindsFiles, Ghosts, HandleTable, Holdings, IsErrOf, IsSound, Layout, Layout1}
use Rattle.pos_totals.proofs.Common.{LeavesItsFiles, LeavesTheirFiles, List, Numbers, Ok, PlainFile, Recovers}
use Rattle.pos_totals.proofs.Common.{RecoveryFault, Result, Some, Standing, State, StoreFault, StoreOff, StoreReady}
use Rattle.pos_totals.proofs.Common.{StoreView, arith, false, inl, inr, length, mode_of, nat_tests, refl}
use Rattle.pos_totals.proofs.Common.{settles, store_files_of, store_mode_of, stored, tags_from, told_as, totals_at}
use Rattle.pos_totals.proofs.Common.{true, view_of, with_tags, ℕ, ⊎_elim, ◌+◌, ◌↔◌, ◌≡◌}
use Rattle.pos_totals.proofs.AreaLemmas.{apart_new}
use Rattle.pos_totals.proofs.BufferLemmas.{off_holds}
use Rattle.pos_totals.proofs.NumberLemmas.{with_numbers, are_numbers}
use Rattle.pos_totals.proofs.PutGroupLemmas.{their_files, keeps}
use Rattle.pos_store.specs.Recoveries as store
use Rattle.pos_store.specs.declared.store.Mode.TheVariants as mode
use Rattle.pos_store.specs.declared.fault.StoreFault.TheVariants as cause
use Rattle.pos_totals.specs.declared.fault.RecoveryFault.TheVariants as fault

-- ---- a recovery of totals that are ready

pub ready_recovers : {D : Type 0} {bound : Ghosts D} {disk : D} {layout : Layout} (state : State) (tail : ℕ)
    {holdings : Holdings} → IsSound layout state holdings → {sequence : ℕ} → mode.Ready sequence ≡ store_mode_of state
    → (bound.honest disk → LeavesItsFiles layout state (bound.state disk))
    → let old = view_of (record { disk = disk; layout = layout; state = state; tail = tail }) holdings in
    Recovers bound old (Ok tt) old
ready_recovers StoreOff tail sound ready leaves = absurd cc
ready_recovers {bound} {disk} (StoreReady files sequence) tail sound ready leaves = record {
  ready = (refl, refl);
  answer = tt;
  one_of = λ h. tt;
  reading = λ h. refl;
  now = λ h. their_files (StoreReady files sequence) (bound.state disk) sound (leaves h);
  device = λ is. absurd cc;
  counts = λ h. inr refl;
  kept = keeps bound disk;
}

-- ---- what a store found, in the totals' words

-- a fault of the store, which is off
told_finds : (P : Standing → Type 0) (holdings : Holdings) (why : StoreFault) {result : RecoveryFault} (layout : Layout)
    {state : State} → store.FindsStanding P (Err why) layout state → told_as why ≡ Some result
    → (state ≡ StoreOff) × FindsFiles P (totals_at StoreOff 0 holdings) (Err result) (totals_at StoreOff 0 holdings)
told_finds P holdings why layout finds tells = grind (arith, nat_tests)

-- the holdings with other tags, and with another layout too
abbrev pub with_table : Holdings → HandleTable → Holdings
with_table holdings table = record holdings { handles = table }

abbrev pub found_by : Holdings → Layout → HandleTable → Holdings
found_by holdings layout table = record holdings { layout = layout; handles = table }

-- the tags of files that were found
abbrev found_table : ℕ → ℕ → HandleTable
found_table next count = record { given = tags_from next count; next = next + count }

-- ---- a recovery of totals that are off, by what is made of a finding whatever P tells

off_recovers : {D : Type 0} {bound : Ghosts D} {disk : D} {layout : Layout} {tail : ℕ}
    {result : Result (Unit {0}) StoreFault} {mid : StoreView D} (holdings : Holdings)
    → store.Recovers bound (record { disk = disk; layout = layout; state = StoreOff; tail = tail }) result mid
    → {told : Result (Unit {0}) RecoveryFault} (state : State) (later : Holdings)
    → ((P : Standing → Type 0) → store.FindsStanding P result mid.layout mid.state
    → FindsFiles P (totals_at StoreOff 0 holdings) told (totals_at state mid.tail later))
    → (IsErrOf told fault.Device ↔ IsErrOf result cause.Device)
    → (bound.honest disk → LeavesTheirFiles later.layout (mode_of later.handles.given state) (bound.state mid.disk))
    → Recovers bound (record { disk = disk; totals = totals_at StoreOff 0 holdings }) told
    (record { disk = mid.disk; totals = totals_at state mid.tail later })
off_recovers holdings recovers state later finds device now = record {
  ready = tt;
  answer = finds _ recovers.answer;
  one_of = λ h candidates leaves. let one = recovers.one_of h candidates leaves in record {
    found = finds _ one.found;
    passes = settles later.layout (stored (mode_of later.handles.given state)) _ _ candidates one.passes (now h);
  };
  reading = recovers.reading;
  now = now;
  device = λ is h. recovers.device h (device.0 is);
  counts = λ h. ⊎_elim (λ is. inl (device.1 is)) (λ same. inr same) (recovers.counts h);
  kept = recovers.keeps;
}

-- ---- the same for a store in any state

-- a store that is off
pub data IsOff {D : Type 0} : StoreView D → Type 0 where
  WasOff : (disk : D) (layout : Layout) (tail : ℕ)
      → IsOff (record { disk = disk; layout = layout; state = StoreOff; tail = tail })

off_is : {D : Type 0} (disk : D) (layout : Layout) (state : State) (tail : ℕ) → store_mode_of state ≡ mode.Off
    → IsOff (record { disk = disk; layout = layout; state = state; tail = tail })
off_is disk layout StoreOff tail off = WasOff disk layout tail
off_is disk layout (StoreReady files sequence) tail off = absurd cc

pub was_off : {D : Type 0} {old : StoreView D} → store_mode_of old.state ≡ mode.Off → IsOff old
was_off {old} off = off_is old.disk old.layout old.state old.tail off

-- a store that shows files
pub data Shows {D : Type 0} (files : List PlainFile) : StoreView D → Type 0 where
  Shown : (disk : D) (layout : Layout) (sequence tail : ℕ)
      → Shows files (record { disk = disk; layout = layout; state = StoreReady files sequence; tail = tail })

shown_at : {D : Type 0} (disk : D) (layout : Layout) (state : State) (tail : ℕ) (files : List PlainFile)
    → store_files_of state ≡ Some files
    → Shows files (record { disk = disk; layout = layout; state = state; tail = tail })
shown_at disk layout StoreOff tail files is = absurd cc
shown_at disk layout (StoreReady found sequence) tail files is = let same : found ≡ files = cc in
    rw (← same) (Shown disk layout sequence tail)

pub shown : {D : Type 0} {mid : StoreView D} {files : List PlainFile} → store_files_of mid.state ≡ Some files
    → Shows files mid
shown {mid} {files} is = shown_at mid.disk mid.layout mid.state mid.tail files is

module _ {D : Type 0} {bound : Ghosts D} where
  -- the store met a fault
  pub store_failed : {old mid : StoreView D} → IsOff old → {holdings : Holdings} → IsSound old.layout old.state holdings
      → {why : StoreFault} {result : RecoveryFault} → store.Recovers bound old (Err why) mid → told_as why ≡ Some result
      → Recovers bound (view_of old holdings) (Err result) (view_of mid holdings)
      × IsSound mid.layout mid.state holdings
  store_failed {mid} (WasOff disk layout tail) {holdings} sound {why} did tells =
      let none = (told_finds (store.DiskStandsFor bound disk) holdings why mid.layout did.answer tells).0 in
      let still : IsSound mid.layout mid.state holdings =
      rw none (record { found = tt; handles = tt; buffers = sound.buffers; apart = tt }) in (
        off_recovers holdings did mid.state holdings
            (λ P finds. rw none (told_finds P holdings why mid.layout finds tells).1) (
              (λ e. grind (arith, nat_tests)),
              (λ e. grind (arith, nat_tests)),
            ) (λ h. their_files mid.state (bound.state mid.disk) still (did.now h)),
        still,
      )

  -- the files that it found got handles
  pub store_found : {old mid : StoreView D} {files : List PlainFile} → IsOff old → Shows files mid
      → {holdings : Holdings} → IsSound old.layout old.state holdings → {table : HandleTable}
      → store.Recovers bound old (Ok tt) mid
      → Numbers holdings.handles.given holdings.handles.next (length files) true table.given table.next
      → Recovers bound (view_of old holdings) (Ok tt) (view_of mid (found_by holdings mid.layout table))
      × IsSound mid.layout mid.state (found_by holdings mid.layout table)
  store_found {files} (WasOff disk layout tail) (Shown after found sequence end)
      {holdings} sound did numbers = rw (numbers.1, numbers.2) (
      let next = holdings.handles.next in
      let later = found_by holdings found (found_table next (length files)) in
      let still : IsSound found (StoreReady files sequence) later = record {
        found = refl;
        handles = are_numbers files next;
        buffers = off_holds (with_tags (tags_from next (length files)) files) sequence next
            (next + length files) holdings.transactions sound.buffers;
        apart = apart_new holdings.area next (length files);
      } in (
        off_recovers holdings did (StoreReady files sequence) later (λ P finds. record {
          layout = found;
          files = files;
          sequence = sequence;
          tail = end;
          found = finds;
          handles = numbers.0;
          totals = rw (with_numbers files next) refl;
        }) ((λ e. absurd cc), (λ e. absurd cc))
            (λ h. their_files (StoreReady files sequence) (bound.state after) still (did.now h)),
        still,
      )
      )

  -- they are too many
  pub store_found_more : {old mid : StoreView D} {files : List PlainFile} → IsOff old → Shows files mid
      → {holdings : Holdings} → IsSound old.layout old.state holdings → {table : HandleTable} {new : StoreView D}
      → store.Recovers bound old (Ok tt) mid
      → Numbers holdings.handles.given holdings.handles.next (length files) false table.given table.next
      → new ≡ record { disk = mid.disk; layout = Layout1; state = StoreOff; tail = 0 }
      → Recovers bound (view_of old holdings) (Err fault.Handles) (view_of new (with_table holdings table))
      × IsSound new.layout new.state (with_table holdings table)
  store_found_more {files} (WasOff disk layout tail) (Shown after found sequence end)
      {holdings} sound did numbers turned = rw (turned, numbers.1, numbers.2) (
        let many = numbers.0 in
            off_recovers holdings did StoreOff holdings (λ P finds. (
              record {
                layout = found;
                files = files;
                sequence = sequence;
                found = finds;
                handles = λ few. omega (arith, few, many);
              },
              refl,
            )) ((λ e. absurd cc), (λ e. absurd cc)) (λ h. tt),
        record { found = tt; handles = tt; buffers = sound.buffers; apart = tt },
      )
