-- What a change of the totals did, by what its table says and by what the store did.
use Rattle.pos_totals.proofs.Common.{AllByRecursion, Answer, Bool, Buffers, Change, Changed, Changes, CheckedUpdate}
use Rattle.pos_totals.proofs.Common.{ChecksAt, Commits, Create, Decided, Delete, Done, Edit, Err, File, FileChange}
use Rattle.pos_totals.proofs.Common.{FileEdit, Ghosts, HasDirectory, HasFailed, HasItsFiles, HasPlace, HaveBuffers}
use Rattle.pos_totals.proofs.Common.{Holdings, IsApplicable, IsBuffered, IsEdit, IsGiven, IsOneGroup, IsReady, IsSound}
use Rattle.pos_totals.proofs.Common.{Layout, List, MayHold, Mode, NoMemory, None, Off, Ok, Option, PlainFile, Ready}
use Rattle.pos_totals.proofs.Common.{Rename, Result, RunsOut, Some, State, StoreFault, StoreOff, StoreReady, StoreView}
use Rattle.pos_totals.proofs.Common.{Totals, [], ap, arith, edit_in, eqb-false, false, file_change, files_after}
use Rattle.pos_totals.proofs.Common.{files_of, find, first_refusal, following, given_after, given_by, group_by_change}
use Rattle.pos_totals.proofs.Common.{group_of, handles_of, in_transaction, index_of, is_called, is_create, is_named}
use Rattle.pos_totals.proofs.Common.{is_none, is_some, lacks, last_number, length, length-map, limits_of, mode_of}
use Rattle.pos_totals.proofs.Common.{nat_eq, nat_tests, not, number_rows, option_map, outcome, refl}
use Rattle.pos_totals.proofs.Common.{refusals_of_change, sequence_after, slice_set, spent_by, sym, tag_of, tags_of}
use Rattle.pos_totals.proofs.Common.{totals_limits, totals_at, totals_of, transaction_at, true, value_after, view_of}
use Rattle.pos_totals.proofs.Common.{with_buffered, with_tags, ℕ, ℤ, ◌&&◌, ◌++◌, ◌<◌, ◌^◌, ◌∙◌, ◌∷◌, ◌≡◌, ◌⊎◌}
use Rattle.pos_totals.proofs.EditLemmas.{is_edit, keeps_handles}
use Rattle.pos_totals.proofs.AreaLemmas.{apart_after, files_apart}
use Rattle.pos_totals.proofs.BufferLemmas.{all_fit, buffered_after, holds_so, held_with, held_at}
use Rattle.pos_totals.proofs.GroupLemmas.{IsUnrefused, none_of, some_of, deleted, makes, edit_fits, fitting}
use Rattle.pos_totals.proofs.HandleLemmas.{all_with, given_is, numbers_are, are_after}
use Rattle.pos_totals.proofs.PairLemmas.{tags_in, called_again}
use Rattle.pos_totals.proofs.OutlineLemmas.{found_has}
use Rattle.pos_totals.proofs.PlaceLemmas.{found_inside}
use Rattle.pos_totals.proofs.PutGroupLemmas.{Begins, IsFound, Puts, answer_by, group_applies, idles, later_holdings}
use Rattle.pos_totals.proofs.PutGroupLemmas.{puts, ready_store, rests, retransacted, sound_files, where_let}
use Rattle.pos_totals.proofs.PutGroupLemmas.IsFound.{FoundFile}
use Rattle.pos_totals.specs.Checks.{Passes}
use Rattle.pos_service.specs.declared.answer.Answer.TheVariants as answer
use Rattle.pos_service.specs.declared.answer.Value.TheVariants as value
use Rattle.pos_service.specs.declared.code.Code.TheVariants as code

-- ---- a change that changes nothing

-- the group of a change of files that are sound is one
is_group : {layout : Layout} (state : State) (tail : ℕ) (holdings : Holdings) (control : ℕ) (change : Change)
    → HasDirectory holdings.layout state → IsSound layout state holdings
    → IsOneGroup (totals_at state tail holdings) (group_by_change (totals_at state tail holdings) control change)
is_group StoreOff tail holdings control change directory sound = grind (arith, nat_tests)
is_group (StoreReady files sequence) tail holdings control change directory sound =
    let old = totals_at (StoreReady files sequence) tail holdings in
    where_let old (is_none (first_refusal (refusals_of_change old control change)) && not (in_transaction old control))
    (change ∷ []) (λ is.
    let may : IsUnrefused holdings.layout (files_of old.mode) holdings.handles.next control (spent_by old control)
    change = record { theirs = sound_files holdings directory sound.handles; rows = grind (arith, nat_tests) } in
    rw (makes change may) refl)

pub stays : {D : Type 0} {bound : Ghosts D} {store : StoreView D} {holdings : Holdings} → Begins bound store holdings
    → {control : ℕ} {change : Change} {outcome : Result Answer NoMemory}
    → Changed (HasFailed bound store.disk store.disk) (totals_of store holdings) control change outcome
    (totals_of store holdings) → Changes bound (view_of store holdings) control change outcome (view_of store holdings)
stays {store} {holdings} begins {control} {change} {outcome} changed = record {
  answer = changed;
  disk = rests begins _ outcome (is_group store.state store.tail holdings control change begins.directory begins.sound);
}

-- a change that its table refuses
pub refuses : {D : Type 0} {bound : Ghosts D} {store : StoreView D} {holdings : Holdings} → Begins bound store holdings
    → {control : ℕ} {change : Change} {refusal : Answer}
    → ChecksAt (totals_of store holdings) control change (Err refusal)
    → Changes bound (view_of store holdings) control change (Ok refusal) (view_of store holdings)
refuses begins checks = stays begins (record { outcome = rw checks (refl, refl) })

-- ---- what may be buffered

-- nothing but an edit may be buffered
only_edits : (files : List File) (next : ℕ) (change : Change) → IsBuffered files next change
    → is_some (edit_in (file_change files change)) ≡ true
only_edits files next (Edit handle edit) is = is_edit (index_of (is_called handle) files) edit
only_edits files next other is = absurd is

-- a buffered change is the one that was asked for
same_asked : {change other : Change} (named : Option ℕ) (found : Option FileEdit) → is_some found ≡ true
    → IsEdit change named found → IsEdit other named found → other ≡ change
same_asked named found some asked again = grind (arith, nat_tests)

-- the handle of a file that was found was given
given_below : (handle : ℤ) (files : List File) (next : ℕ) → AllByRecursion (λ h. h < next) (handles_of files)
    → AllByRecursion (λ file. is_called handle file ≡ true → IsGiven next handle) files
given_below handle [] next below = tt
given_below handle (first ∷ files) next below =
    (λ called. grind (arith, nat_tests, called, below.0), given_below handle files next below.1)

-- a change that is let through and bufferable is what may be buffered
is_buffered : {layout : Layout} {files : List File} {next control : ℕ} {spent : Option ℕ} (change : Change)
    → IsUnrefused layout files next control spent change → is_some spent ≡ true → IsBuffered files next change
is_buffered {files} {next} (Edit handle edit) may inside =
    let fit = edit_fits may in
    let found = fitting (find (is_called handle) files) edit fit in (
      found_has (is_called handle)
          (λ file. IsGiven next handle) files found.0 (given_below handle files next may.theirs.below) found.1,
      all_fit files handle edit may.theirs.distinct fit,
      (length found.0.bytes, found.2),
    )
is_buffered {spent = None} other may inside = absurd cc
is_buffered {spent = Some spent} other may inside = absurd (let rows = may.rows in cc)

-- one more is held with what a control has buffered
may_hold : (mode : Mode) (next : ℕ) (transactions : List (Option (List Change))) (control : ℕ) {buffer : List Change}
    (change : Change) → HaveBuffers mode next transactions → transaction_at transactions control ≡ Some buffer
    → IsBuffered (files_of mode) next change → MayHold mode next (Some (buffer ++ change ∷ []))
may_hold Off next transactions control change held some is =
    absurd (let none = held_at Off next transactions control held some in cc)
may_hold (Ready files sequence) next transactions control {buffer} change held some is =
    all_with (IsBuffered files next) buffer (held_at (Ready files sequence) next transactions control held some) is

-- ---- a change that is let through

-- the tags have a place for what the change does to them
has_place : {layout : Layout} {files : List File} {next control : ℕ} {spent : Option ℕ} (change : Change)
    → IsUnrefused layout files next control spent change → (is_create change && nat_eq next last_number) ≡ false
    → next < 2 ^ 64 → HasPlace (tags_of files) next (file_change files change)
has_place {layout} {files} {next} (Create name size) may left small =
    let rows = may.rows in
    let few : length files < (limits_of layout).files = grind (arith, nat_tests) in
    let other = eqb-false next last_number left in
    (grind (arith, length-map files tag_of, few), omega (arith, other, small))
has_place {files} (Delete name) may left small =
    let found = deleted may in
    omega (arith, length-map files tag_of, found_inside (is_named name) files found.0 found.1)
has_place (Rename handle name) may left small = tt
has_place {files} {next} (Edit handle edit) may left small =
    (keeps_handles (index_of (is_called handle) files) edit).place (tags_of files) next

-- the holdings after a change that was done
abbrev pub kept_holdings : Holdings → FileChange → Holdings
kept_holdings holdings made = record holdings {
  handles = record {
    given = given_after holdings.handles.given holdings.handles.next made;
    next = following holdings.handles.next made;
  };
}

-- What the checks of a change found that lets it through: the totals are ready, and a group takes it.
pub record Allowed {D : Type 0} (bound : Ghosts D) (store : StoreView D) (holdings : Holdings) (control : ℕ)
    (change : Change) (made : CheckedUpdate) : Type 0 where
  pub begins : Begins bound store holdings
  pub ready : IsReady (mode_of holdings.handles.given store.state)
  pub unrefused : first_refusal (refusals_of_change (totals_of store holdings) control change) ≡ None
  pub passes : Passes (totals_limits holdings.layout) (files_of (mode_of holdings.handles.given store.state)) control
      (spent_by (totals_of store holdings) control) change made
  pub unrefused_here : IsUnrefused holdings.layout (files_of (mode_of holdings.handles.given store.state))
      holdings.handles.next control (spent_by (totals_of store holdings) control) change
  pub tags : tags_of (files_of (mode_of holdings.handles.given store.state)) ≡ holdings.handles.given

pub allowed : {D : Type 0} {bound : Ghosts D} {disk : D} {layout : Layout} (state : State) {tail : ℕ}
    {holdings : Holdings} {control : ℕ} {change : Change} {made : CheckedUpdate}
    → Begins bound (record { disk = disk; layout = layout; state = state; tail = tail }) holdings
    → ChecksAt (totals_at state tail holdings) control change (Ok made)
    → Allowed bound (record { disk = disk; layout = layout; state = state; tail = tail }) holdings control change made
allowed StoreOff begins checks = absurd checks.1
allowed (StoreReady files sequence) {holdings} begins checks = record {
  begins = begins;
  ready = tt;
  unrefused = rw checks.0 checks.1.unrefused;
  passes = checks.1;
  unrefused_here = record {
    theirs = sound_files holdings begins.directory begins.sound.handles;
    rows = checks.1.unrefused;
  };
  tags = tags_in holdings.handles.given files begins.sound.handles.count;
}

module _ {D : Type 0} {bound : Ghosts D} {store : StoreView D} {holdings : Holdings} {control : ℕ} {change : Change}
    {made : CheckedUpdate} (may : Allowed bound store holdings control change made) where
  abbrev old : Totals
  old = totals_of store holdings

  abbrev next : ℕ
  next = holdings.handles.next

  one : IsOneGroup old (change ∷ [])
  one = rw (makes change may.unrefused_here) refl

  pub applicable : IsApplicable store.layout store.state (made.change ∷ [])
  applicable = rw may.passes.made at (group_applies store.state store.tail (change ∷ []) may.begins.sound one)

  lacks_so : (b : Bool) → lacks next made.change ≡ b → (is_create change && nat_eq next last_number) ≡ b
  lacks_so b lacking = sym (numbers_are (files_of old.mode) change next).0 ∙ ap (lacks next) may.passes.made ∙ lacking

  pub place : lacks next made.change ≡ false → next < 2 ^ 64 → HasPlace holdings.handles.given next made.change
  place left small = rw (may.tags, may.passes.made) at (has_place change may.unrefused_here (lacks_so false left) small)

  -- a change that finds no memory
  pub wants : Changes bound (view_of store holdings) control change (Err (record {})) (view_of store holdings)
  wants = stays may.begins (may.unrefused, refl)

  -- the change is buffered
  added : (buffer : List Change) → transaction_at holdings.transactions control ≡ Some buffer
      → let later = record holdings {
        transactions = slice_set holdings.transactions control (Some (buffer ++ change ∷ []));
      } in
      Changes bound (view_of store holdings) control change (Ok (answer.Done value.Empty)) (view_of store later)
      × IsSound store.layout store.state later
  added buffer some =
      let none : group_by_change old control change ≡ [] = rw (may.unrefused, some) refl in (
        record {
          answer = record { outcome = rw (may.unrefused, some) (refl, refl) };
          disk = rw none (idles may.begins _ [] _ refl (λ refused. absurd (refused tt)));
        },
        retransacted may.begins.sound (held_with old.mode next holdings.transactions control
            (Some (buffer ++ change ∷ [])) may.begins.sound.buffers (may_hold old.mode next holdings.transactions
            control change may.begins.sound.buffers some (is_buffered change may.unrefused_here (rw some refl)))),
      )

  -- it is, or finds no memory for it
  pub buffers : is_some (transaction_at holdings.transactions control) ≡ true → (outcome : Result Answer NoMemory)
      (new : List (Option (List Change))) → Buffers holdings.transactions control made outcome new → Changes bound
      (view_of store holdings) control change outcome (view_of store (record holdings { transactions = new }))
      × IsSound store.layout store.state (record holdings { transactions = new })
  buffers inside (Err want) new same = rw same (wants, may.begins.sound)
  buffers inside (Ok result) new did =
      let some = some_of (transaction_at holdings.transactions control) inside in
      let edits = rw may.passes.made
      at (only_edits (files_of old.mode) next change (is_buffered change may.unrefused_here (rw some.1 refl))) in
      let is : new ≡ slice_set holdings.transactions control (Some (some.0 ++ change ∷ [])) =
      did.1.added ∙ ap (with_buffered holdings.transactions control) (same_asked made.handle (edit_in made.change) edits
      may.passes.asked did.1.asked) ∙ ap (λ (t : Option (List Change)). slice_set holdings.transactions control
      (option_map (λ b. b ++ change ∷ []) t)) some.1 in
      rw (is, did.0) (added some.0 some.1)

  module _ (free : is_some (transaction_at holdings.transactions control) ≡ false) where
    -- what a change does outside a transaction, by the row for its handle
    outside : (F : Type 0) (result : Answer) (new : Totals) → Decided (number_rows old change) result (new ≡ old)
        (RunsOut old (change ∷ []) result new ⊎ Done F old (change ∷ []) (given_by next change) result new)
        → Changed F old control change (Ok result) new
    outside F result new does = record {
      outcome = rw (may.unrefused, none_of (transaction_at holdings.transactions control) free) does;
    }

    -- a change that has no handle
    pub lacking : lacks next made.change ≡ true → Changes bound (view_of store holdings) control change
        (Ok (answer.Refused code.Failure 0)) (view_of store holdings)
    lacking out = stays may.begins (outside _ _ _ (record { outcome = rw (lacks_so true out) (refl, refl) }))

    -- its group, and what it is answered, the handle being there
    grouped : group_by_change old control change ≡ change ∷ []
    grouped = rw (may.unrefused, free) refl

    answered : (F : Type 0) → lacks next made.change ≡ false → (result : Answer) (new : Totals)
        → RunsOut old (change ∷ []) result new ⊎ Done F old (change ∷ []) (given_by next change) result new
        → Changed F old control change (Ok result) new
    answered F left result new does = outside F result new (record { outcome = rw (lacks_so false left) does })

-- ---- a change that is put on the disk

module _ {D : Type 0} {bound : Ghosts D} {disk : D} {files : List PlainFile} {sequence tail : ℕ} {holdings : Holdings}
    {control : ℕ} {change : Change} {made : CheckedUpdate}
    (may : Allowed bound (ready_store disk files sequence tail holdings) holdings control change made)
    (free : is_some (transaction_at holdings.transactions control) ≡ false)
    (left : lacks holdings.handles.next made.change ≡ false) where
  abbrev there : List File
  there = with_tags holdings.handles.given files

  abbrev after : List File
  after = files_after holdings.handles.next there change

  abbrev later : ℕ
  later = sequence_after holdings.layout tail (group_of there (change ∷ [])) sequence

  given : given_after holdings.handles.given holdings.handles.next (file_change there change) ≡ tags_of after
  given = rw may.tags at (given_is change may.unrefused_here)

  put : Puts bound disk files sequence tail holdings (kept_holdings holdings (file_change there change)) change []
      (given_by holdings.handles.next change)
      (λ F. Changed F (totals_at (StoreReady files sequence) tail holdings) control change)
  put = record {
    begins = may.begins;
    group = one may;
    wants = λ F. (may.unrefused, refl);
    does = λ F. answered may free F left;
    ended = refl;
    after = (
      rw (given, (numbers_are there change holdings.handles.next).1, called_again after) refl,
      record {
        found = refl;
        handles = rw may.tags at (are_after change may.unrefused_here);
        buffers = rw (given, called_again after, (numbers_are there change holdings.handles.next).1)
            (holds_so there after sequence later holdings.transactions
            (λ other was. buffered_after change other may.unrefused_here was) may.begins.sound.buffers);
        apart = apart_after holdings.area holdings.handles.given holdings.handles.next
            (file_change there change) may.begins.sound.apart;
      },
    );
  }

-- the store has done it, or met a fault
pub put_down : {D : Type 0} {bound : Ghosts D} {store : StoreView D} {holdings : Holdings} {control : ℕ}
    {change : Change} {made : CheckedUpdate} → IsFound holdings store → Allowed bound store holdings control change made
    → is_some (transaction_at holdings.transactions control) ≡ false → lacks holdings.handles.next made.change ≡ false
    → {new : StoreView D} {result : Result (Unit {0}) StoreFault} → Commits bound store (made.change ∷ []) result new
    → let now = later_holdings holdings (kept_holdings holdings made.change) result in
    Changes bound (view_of store holdings) control change (answer_by (value_after holdings.handles.next made.change)
    result) (view_of new now) × IsSound new.layout new.state now
put_down {holdings} {change} (FoundFile disk files sequence tail) may free left {new} {result} commits =
    let did = puts (put may free left) new result (rw (← may.passes.made) at commits) in
    rw (← may.passes.made, (numbers_are (there may free left) change holdings.handles.next).2)
    (record { answer = did.0; disk = rw (grouped may free) did.1 }, did.2)

-- the files of a store that is ready have handles of their own, what is buffered fits them, and claims are apart
pub theirs : {layout : Layout} (state : State) (tail : ℕ) {holdings : Holdings} → HasDirectory holdings.layout state
    → IsSound layout state holdings → HasItsFiles (totals_at state tail holdings)
theirs StoreOff tail directory sound = record { files = tt; buffers = sound.buffers; apart = grind arith }
theirs (StoreReady files sequence) tail {holdings} directory sound = record {
  files = sound_files holdings directory sound.handles;
  buffers = sound.buffers;
  apart = files_apart holdings.area holdings.handles.given files sound.apart;
}
