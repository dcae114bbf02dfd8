-- A group that is put on the disk: what the store did, and what it says of the totals.
use Rattle.pos_totals.proofs.Common.{Answer, AreHandles, AreTheirFiles, Bool, Change, Commits, DiskState, Done, Err}
use Rattle.pos_totals.proofs.Common.{File, FileChange, Ghosts, HasDirectory, HasFailed, HaveBuffers, Holdings, IsAmong}
use Rattle.pos_totals.proofs.Common.{IsApplicable, IsDirectory, IsDone, IsExhausted, IsOneGroup, IsReady, IsSound}
use Rattle.pos_totals.proofs.Common.{KeepsDisk, Layout, LeavesItsFiles, LeavesOneOf, LeavesTheirFiles, List, MayLeave}
use Rattle.pos_totals.proofs.Common.{Mode, NoMemory, Off, Ok, Option, Passes, PlainFile, PutsDown, PutsGroup, Ready}
use Rattle.pos_totals.proofs.Common.{Result, RunsOut, Standing, Stands, StandsFor, StandsForOneOf, State, StoreFault}
use Rattle.pos_totals.proofs.Common.{StoreOff, StoreReady, StoreView, Totals, Value, WhenOff, [], after_changes}
use Rattle.pos_totals.proofs.Common.{answer_of, ap, arith, before_or_after, cond, eq-eqb, false, files_after_all}
use Rattle.pos_totals.proofs.Common.{files_of, group_of, in_doubt, inl, inr, last_number, limits_of, map, mode_of}
use Rattle.pos_totals.proofs.Common.{nat_eq, nat_tests, never_failed, next_sequences, outcome, outcome_of_all, plain}
use Rattle.pos_totals.proofs.Common.{refl, sequence_after, settled, stays, tail_after, store_settled, subst, totals_at}
use Rattle.pos_totals.proofs.Common.{totals_of, transactions_after, true, view_of, wider, with_tags}
use Rattle.pos_totals.proofs.Common.{without_transactions, ℕ, ⊎_elim, ◌∷◌, ◌≡◌, ◌⊎◌}
use Rattle.pos_totals.proofs.PairLemmas.{plain_of, numbers_in}
use Rattle.pos_totals.proofs.BufferLemmas.{none_hold}
use Rattle.pos_service.specs.declared.answer.Answer.TheVariants as answer
use Rattle.pos_store.specs.Commits as store
use Rattle.pos_store.specs.declared.fault.StoreFault.TheVariants as fault

-- ---- groups

-- none is put down where a test fails
pub where_let : (old : Totals) (b : Bool) (changes : List Change) → (b ≡ true → IsOneGroup old changes)
    → IsOneGroup old (cond b changes [])
where_let old true changes one = one refl
where_let old false changes one = refl

-- ---- the view

-- the holdings after a call whose group the store refused
abbrev pub refused_holdings : Holdings → StoreFault → Holdings
refused_holdings holdings cause = record holdings { transactions = transactions_after cause holdings.transactions }

-- the holdings after a call that puts a group down, and what it is answered, by what the store answers
abbrev pub later_holdings : Holdings → Holdings → Result (Unit {0}) StoreFault → Holdings
later_holdings holdings done (Ok _) = done
later_holdings holdings done (Err cause) = refused_holdings holdings cause

abbrev pub answer_by : Value → Result (Unit {0}) StoreFault → Result Answer NoMemory
answer_by given (Ok _) = Ok (answer.Done given)
answer_by given (Err cause) = answer_of cause

-- what a store that is sound leaves, in the totals' words
pub their_files : {layout : Layout} (state : State) {holdings : Holdings} (disk : DiskState)
    → IsSound layout state holdings → LeavesItsFiles layout state disk
    → LeavesTheirFiles holdings.layout (mode_of holdings.handles.given state) disk
their_files StoreOff disk sound leaves = tt
their_files (StoreReady files sequence) {holdings} disk sound leaves =
    rw (plain_of holdings.handles.given files sound.handles.count, ← sound.found) leaves

-- a store that is ready, of the layout that was found
abbrev pub ready_store : {D : Type 0} → D → List PlainFile → ℕ → ℕ → Holdings → StoreView D
ready_store disk files sequence tail holdings =
    record { disk = disk; layout = holdings.layout; state = StoreReady files sequence; tail = tail }

pub data IsFound {D : Type 0} (holdings : Holdings) : StoreView D → Type 0 where
  FoundFile : (disk : D) (files : List PlainFile) (sequence tail : ℕ)
      → IsFound holdings (ready_store disk files sequence tail holdings)

is_found : {D : Type 0} (disk : D) {layout : Layout} (state : State) (tail : ℕ) {holdings : Holdings}
    → IsSound layout state holdings → IsReady (mode_of holdings.handles.given state)
    → IsFound holdings (record { disk = disk; layout = layout; state = state; tail = tail })
is_found disk StoreOff tail sound ready = absurd ready
is_found disk (StoreReady files sequence) tail sound ready = rw sound.found (FoundFile disk files sequence tail)

-- a disk that no call has touched
pub keeps : {D : Type 0} (bound : Ghosts D) (disk : D) → KeepsDisk bound disk disk
keeps bound disk = record { size = refl; honest = (λ h. h, λ h. h); later = λ h. omega arith; fixed = refl }

-- a group for which it isn't touched
passes_here : {disk : DiskState} (layout : Layout) (next : ℕ) (mode : Mode) (changes : List Change)
    (left : List Standing) → ((c : List ℕ) → disk.left_since disk.moment c → MayLeave disk c)
    → WhenOff mode (LeavesOneOf left disk) → LeavesTheirFiles layout mode disk
    → Passes disk disk (settled layout mode left) (settled layout mode (in_doubt layout next left changes mode))
passes_here {disk} layout next Off changes left only leaves their = stays disk left only leaves
passes_here {disk} layout next (Ready files sequence) changes left only leaves their =
    stays disk (Stands layout (plain files) sequence ∷ []) only their

-- the files that a store has, with their tags, are sound
pub sound_files : (holdings : Holdings) {files : List PlainFile} → IsDirectory (limits_of holdings.layout) files
    → AreHandles holdings.handles.given files holdings.handles.next
    → AreTheirFiles holdings.layout (with_tags holdings.handles.given files) holdings.handles.next
sound_files holdings {files} directory handles = record {
  distinct = rw (numbers_in holdings.handles.given files handles.count) handles.distinct;
  below = rw (numbers_in holdings.handles.given files handles.count) handles.below;
  directory = rw (plain_of holdings.handles.given files handles.count) directory;
}

-- other transactions that may be held
pub retransacted : {layout : Layout} {state : State} {holdings : Holdings} {transactions : List (Option (List Change))}
    → IsSound layout state holdings
    → HaveBuffers (mode_of holdings.handles.given state) holdings.handles.next transactions
    → IsSound layout state (record holdings { transactions = transactions })
retransacted sound buffers =
    record { found = sound.found; handles = sound.handles; buffers = buffers; apart = sound.apart }

-- ---- where the disk isn't touched

-- A store and the holdings are sound, and the call hasn't touched the disk.
pub record Begins {D : Type 0} (bound : Ghosts D) (store : StoreView D) (holdings : Holdings) : Type 0 where
  pub only : (bytes : List ℕ) → bound.honest store.disk
      → (bound.state store.disk).left_since (bound.state store.disk).moment bytes
      → MayLeave (bound.state store.disk) bytes
  pub directory : HasDirectory holdings.layout store.state
  pub sound : IsSound store.layout store.state holdings
  pub leaves : bound.honest store.disk → LeavesItsFiles store.layout store.state (bound.state store.disk)

module _ {D : Type 0} {bound : Ghosts D} {store : StoreView D} {holdings : Holdings}
    (begins : Begins bound store holdings) where
  pub as_found : IsReady (mode_of holdings.handles.given store.state) → IsFound holdings store
  as_found ready = is_found store.disk store.state store.tail begins.sound ready

  -- a call that leaves all but the transactions as it is, whatever its group
  pub idles : (transactions : List (Option (List Change))) (changes : List Change) (outcome : Result Answer NoMemory)
      → IsOneGroup (totals_of store holdings) changes → (¬ (IsDone outcome) → transactions ≡ holdings.transactions)
      → PutsGroup bound (view_of store holdings) changes outcome
      (view_of store (record holdings { transactions = transactions }))
  idles transactions changes outcome group same = record {
    group = group;
    untouched = λ none. refl;
    unchanged = λ refused. inr (ap (λ (ts : List (Option (List Change))). view_of store
        (record holdings { transactions = ts })) (same refused));
    crash = λ h left leaves. passes_here holdings.layout holdings.handles.next
        (mode_of holdings.handles.given store.state) changes left
        (λ c. begins.only c h) leaves (their_files store.state (bound.state store.disk) begins.sound (begins.leaves h));
    counts = λ h. inr refl;
    kept = keeps bound store.disk;
  }

  -- a call that leaves everything as it is
  pub rests : (changes : List Change) (outcome : Result Answer NoMemory) → IsOneGroup (totals_of store holdings) changes
      → PutsGroup bound (view_of store holdings) changes outcome (view_of store holdings)
  rests changes outcome group = idles holdings.transactions changes outcome group (λ refused. refl)

-- ---- the sequences after a group

-- the sequence after a group that a store takes is one of the next ones
pub follows : (layout : Layout) (tail : ℕ) (changes : List FileChange) (sequence : ℕ)
    → ¬ (IsExhausted layout tail changes sequence)
    → IsAmong (sequence_after layout tail changes sequence) (next_sequences sequence)
follows layout tail changes sequence left = grind (arith, nat_tests, left)

-- files with one of these sequences
stands_among : {layout : Layout} {files : List PlainFile} {sequence : ℕ} (sequences : List ℕ)
    → IsAmong sequence sequences → {bytes : List ℕ} → StandsFor (Stands layout files sequence) bytes
    → StandsForOneOf (map (λ n. Stands layout files n) sequences) bytes
stands_among [] among stands = absurd among
stands_among {layout} {files} (first ∷ others) among {bytes} stands =
    ⊎_elim (λ same. inl (subst (λ (n : ℕ). StandsFor (Stands layout files n) bytes) same stands))
    (λ rest. inr (stands_among others rest stands)) among

-- ---- a group that the store takes

-- a group of the files without their handles is applicable to the files of the store
pub group_applies : {layout : Layout} (state : State) (tail : ℕ) {holdings : Holdings} (changes : List Change)
    → IsSound layout state holdings → IsOneGroup (totals_at state tail holdings) changes
    → IsApplicable layout state (group_of (files_of (mode_of holdings.handles.given state)) changes)
group_applies StoreOff tail changes sound group = tt
group_applies (StoreReady files sequence) tail {holdings} changes sound group =
    rw (sound.found, (rw (plain_of holdings.handles.given files sound.handles.count) at group)) refl

-- What a call is that puts a group on the disk of a store that is ready: its table answers it by what becomes of the
-- group, and the files after the group are sound with the holdings that it has then.
pub record Puts {D : Type 0} (bound : Ghosts D) (disk : D) (files : List PlainFile) (sequence tail : ℕ)
    (holdings later : Holdings) (change : Change) (changes : List Change) (given : Value)
    (A : Type 0 → Result Answer NoMemory → Totals → Type 0) : Type 1 where
  pub begins : Begins bound (ready_store disk files sequence tail holdings) holdings
  pub group : IsOneGroup (totals_at (StoreReady files sequence) tail holdings) (change ∷ changes)
  pub wants : (F : Type 0) → A F (Err (record {})) (totals_at (StoreReady files sequence) tail holdings)
  pub does : (F : Type 0) (result : Answer) (totals : Totals)
      → RunsOut (totals_at (StoreReady files sequence) tail holdings) (change ∷ changes) result totals
      ⊎ Done F (totals_at (StoreReady files sequence) tail (record holdings { transactions = later.transactions }))
      (change ∷ changes) given result totals → A F (Ok result) totals
  pub ended : without_transactions later.transactions ≡ without_transactions holdings.transactions
  pub after : let sequence_then = sequence_after holdings.layout tail
      (group_of (with_tags holdings.handles.given files) (change ∷ changes)) sequence in
      let tail_then =
      tail_after holdings.layout tail (group_of (with_tags holdings.handles.given files) (change ∷ changes)) in
      let files_then =
      plain (files_after_all holdings.handles.next (with_tags holdings.handles.given files) (change ∷ changes)) in
      (totals_at (StoreReady files_then sequence_then) tail_then later ≡ after_changes
      (totals_at (StoreReady files sequence) tail (record holdings { transactions = later.transactions }))
      (change ∷ changes) sequence_then) × IsSound holdings.layout (StoreReady files_then sequence_then) later

module _ {D : Type 0} {bound : Ghosts D} {disk : D} {files : List PlainFile} {sequence tail : ℕ}
    {holdings later : Holdings} {change : Change} {changes : List Change} {given : Value}
    {A : Type 0 → Result Answer NoMemory → Totals → Type 0}
    (it : Puts bound disk files sequence tail holdings later change changes given A) where
  abbrev layout : Layout
  layout = holdings.layout

  abbrev xs : List File
  xs = with_tags holdings.handles.given files

  abbrev all : List FileChange
  all = group_of xs (change ∷ changes)

  abbrev after : List File
  after = files_after_all holdings.handles.next xs (change ∷ changes)

  abbrev old : StoreView D
  old = ready_store disk files sequence tail holdings

  -- the store has the files without their tags
  plain_is : plain xs ≡ files
  plain_is = plain_of holdings.handles.given files it.begins.sound.handles.count

  -- what the group makes of the store's files
  made : outcome_of_all (limits_of layout) files all ≡ Ok (plain after)
  made = rw plain_is at it.group

  abbrev then_sequence : ℕ
  then_sequence = sequence_after layout tail all sequence

  abbrev then_tail : ℕ
  then_tail = tail_after layout tail all

  -- what the store's commit may leave is among the candidates of the call
  among : ¬ (IsExhausted layout tail all sequence) → (bytes : List ℕ)
      → StandsForOneOf (store.left_by layout files sequence tail all) bytes
      → StandsForOneOf (before_or_after layout holdings.handles.next (Ready xs sequence) (change ∷ changes)) bytes
  among left bytes stands = rw plain_is
      (⊎_elim (λ before. inl before) (λ rest. ⊎_elim (λ behind. inr (stands_among (next_sequences sequence)
      (follows layout tail all sequence left) behind)) (λ none. absurd none) rest) (rw made at stands))

  -- what a crash leaves around the store's commit, by the files of the totals before it and the store's state after it
  passes : {result : Result (Unit {0}) StoreFault} (new : StoreView D) (state : State)
      → Commits bound old all result new → new.state ≡ state → bound.honest disk
      → Passes (bound.state disk) (bound.state new.disk) (Stands layout (plain xs) sequence ∷ [])
      (store_settled layout state (store.left_by layout files sequence tail all))
  passes new state commits is h = rw (plain_is, ← is) (commits.crash h)

  -- what the store's commit answered
  put_down : (result : Result (Unit {0}) StoreFault) (new : StoreView D)
      → store.Answers (StoreReady files sequence) old all result new
      → PutsDown sequence (plain after) old all result new
  put_down result new answers = rw made at answers

  -- what the call did: its group is put down, or the store refused it, and the transactions end with the disk
  pub puts : (new : StoreView D) (result : Result (Unit {0}) StoreFault) → Commits bound old all result new
      → let outcome = answer_by given result in
      let now = later_holdings holdings later result in
      A (HasFailed bound disk new.disk) outcome (totals_of new now) × PutsGroup bound (view_of old holdings)
      (change ∷ changes) outcome (view_of new now) × IsSound new.layout new.state now
  puts new (Ok _) commits =
      let down = put_down (Ok tt) new commits.answer in
      let both = it.after in
      let now : A (HasFailed bound disk new.disk) (Ok (answer.Done given))
      (totals_at (StoreReady (plain after) then_sequence) then_tail later)
      × PutsGroup bound (view_of old holdings) (change ∷ changes) (Ok (answer.Done given)) (record {
        disk = new.disk;
        totals = totals_at (StoreReady (plain after) then_sequence) then_tail later;
      }) = rw both.0 (
        it.does _ _ _ (inr (inl (
          refl,
          record {
            sequence = then_sequence;
            follows = follows layout tail all sequence down.0;
            is = refl;
            totals = refl;
          },
        ))),
        record {
          group = it.group;
          untouched = λ none. absurd cc;
          unchanged = λ refused. absurd (refused tt);
          crash = λ h left leaves. passes new (StoreReady (plain after) then_sequence) commits down.1 h;
          counts = λ h. inr (never_failed _ _ tt fault.Device (commits.counts h));
          kept = commits.keeps;
        },
      ) in
      rw (down.1, down.2, commits.layout) (now.0, now.1, both.1)
  puts new (Err fault.NoMemory) commits = rw (put_down (Err fault.NoMemory) new commits.answer)
      (it.wants _, rests it.begins (change ∷ changes) _ it.group, it.begins.sound)
  puts new (Err fault.Exhausted) commits =
      let (refused, is_same) = put_down (Err fault.Exhausted) new commits.answer in
      let (needs_image, is_last) = refused in
      let last : nat_eq sequence last_number ≡ true = eq-eqb sequence last_number (omega (arith, is_last)) in
      rw is_same (
        it.does _ _ _ (inl (last, needs_image, refl, refl)),
        rests it.begins (change ∷ changes) _ it.group,
        it.begins.sound,
      )
  puts new (Err fault.Device) commits =
      let down = put_down (Err fault.Device) new commits.answer in
      rw down.1 (
        rw (← it.ended) (it.does _ _ _ (inr (inr (refl, (λ h. commits.device h refl), refl)))),
        record {
          group = it.group;
          untouched = λ none. absurd cc;
          unchanged = λ refused. inl tt;
          crash = λ h left leaves. wider (bound.state disk) (bound.state new.disk) _ _ _ (among down.0)
              (passes new StoreOff commits down.1 h);
          counts = λ h. inl tt;
          kept = commits.keeps;
        },
        record {
          found = tt;
          handles = tt;
          buffers = none_hold Off holdings.handles.next holdings.transactions;
          apart = tt;
        },
      )
  puts new (Err other) commits = absurd (put_down (Err other) new commits.answer)
