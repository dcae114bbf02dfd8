-- What a commit did, by what its table says and by what the store did.
use Rattle.pos_totals.proofs.Common.{AllByRecursion, Answer, Change, CommitsBuffer, Committed, EndsBuffer, Err, File}
use Rattle.pos_totals.proofs.Common.{FileChange, Gathers, Ghosts, HasDirectory, HasFailed, Holdings, IsApplicable}
use Rattle.pos_totals.proofs.Common.{IsBuffered, IsOneGroup, IsReady, IsSound, Layout, List, NoMemory, None, Ok, Option}
use Rattle.pos_totals.proofs.Common.{PlainFile, PutsBuffer, Ready, Result, Some, State, StoreFault, StoreOff}
use Rattle.pos_totals.proofs.Common.{StoreReady, StoreView, FileTag, Totals, [], ap, arith, changes_in, false}
use Rattle.pos_totals.proofs.Common.{files_after_all, files_of, first_refusal, group_by_commit, group_of, inl, inr}
use Rattle.pos_totals.proofs.Common.{is_of_none, length, length-map, list_any, mode_of, nat_tests, outcome, plain}
use Rattle.pos_totals.proofs.Common.{plain_file, refl, refusals_of_commit, sequence_after, slice_set, suc, sym, tag_of}
use Rattle.pos_totals.proofs.Common.{tags_of, totals_at, totals_of, transaction_at, view_of, with_tags}
use Rattle.pos_totals.proofs.Common.{without_transactions, zero, ℕ, ◌∙◌, ◌∷◌, ◌≡◌}
use Rattle.pos_totals.proofs.BufferLemmas.{makes_all, keeps_all, held_at, held_with, holds_so, none_held}
use Rattle.pos_totals.proofs.OutlineLemmas.{same_buffered}
use Rattle.pos_totals.proofs.PairLemmas.{tags_in, called_again}
use Rattle.pos_totals.proofs.PutGroupLemmas.{Begins, IsFound, Puts, answer_by, as_found, group_applies, idles}
use Rattle.pos_totals.proofs.PutGroupLemmas.{later_holdings, puts, ready_store, rests, retransacted, sound_files}
use Rattle.pos_totals.proofs.PutGroupLemmas.{where_let}
use Rattle.pos_totals.proofs.PutGroupLemmas.IsFound.{FoundFile}
use Rattle.pos_service.specs.declared.answer.Answer.TheVariants as answer
use Rattle.pos_service.specs.declared.answer.Value.TheVariants as value

-- ---- a commit that is let through

-- the totals are ready
ready_so : (state : State) (tail : ℕ) (holdings : Holdings) (control : ℕ)
    → first_refusal (refusals_of_commit (totals_at state tail holdings) control) ≡ None
    → IsReady (mode_of holdings.handles.given state)
ready_so state tail holdings control passes = grind (arith, nat_tests)

-- all that is buffered for files is one group
one_group : {layout : Layout} (state : State) (tail : ℕ) {holdings : Holdings} (control : ℕ) {buffer : List Change}
    → HasDirectory holdings.layout state → IsSound layout state holdings
    → first_refusal (refusals_of_commit (totals_at state tail holdings) control) ≡ None
    → transaction_at holdings.transactions control ≡ Some buffer → IsOneGroup (totals_at state tail holdings) buffer
one_group StoreOff tail control directory sound passes some = absurd (grind (arith, nat_tests))
one_group (StoreReady files sequence) tail {holdings} control {buffer} directory sound passes some =
    let xs = with_tags holdings.handles.given files in
    let there : list_any (is_of_none xs) buffer ≡ false = grind (arith, nat_tests) in
    makes_all holdings.layout xs holdings.handles.next buffer (sound_files holdings directory sound.handles).distinct
    (held_at (Ready xs sequence) holdings.handles.next holdings.transactions control sound.buffers some) there

-- so is the group of any commit
is_group : {layout : Layout} (state : State) (tail : ℕ) (holdings : Holdings) (control : ℕ)
    → HasDirectory holdings.layout state → IsSound layout state holdings
    → IsOneGroup (totals_at state tail holdings) (group_by_commit (totals_at state tail holdings) control)
is_group state tail holdings control directory sound =
    where_let (totals_at state tail holdings) _ _ (λ is. by _ refl (grind (arith, nat_tests)))
  where
    by : (t : Option (List Change)) → transaction_at holdings.transactions control ≡ t
        → first_refusal (refusals_of_commit (totals_at state tail holdings) control) ≡ None
        → IsOneGroup (totals_at state tail holdings) (changes_in t)
    by None some passes = refl
    by (Some buffer) some passes = one_group state tail control directory sound passes some

-- its group is applicable
pub applicable : {layout : Layout} (state : State) (tail : ℕ) {holdings : Holdings} (control : ℕ)
    {group : List FileChange} → HasDirectory holdings.layout state → IsSound layout state holdings
    → first_refusal (refusals_of_commit (totals_at state tail holdings) control) ≡ None
    → Gathers (files_of (totals_at state tail holdings).mode) (transaction_at holdings.transactions control) group
    → IsApplicable layout state group
applicable state tail control directory sound passes gathered = rw gathered.made (group_applies state tail
    (gathered.first ∷ gathered.others) sound (one_group state tail control directory sound passes gathered.buffered))

-- ---- where the disk isn't used

module _ {D : Type 0} {bound : Ghosts D} {store : StoreView D} {holdings : Holdings}
    (begins : Begins bound store holdings) (control : ℕ) where
  abbrev totals : Totals
  totals = totals_of store holdings

  stays : (outcome : Result Answer NoMemory)
      → Committed (HasFailed bound store.disk store.disk) totals control outcome totals
      → CommitsBuffer bound (view_of store holdings) control outcome (view_of store holdings)
  stays outcome answer = record {
    answer = answer;
    disk = rests begins _ outcome (is_group store.state store.tail holdings control begins.directory begins.sound);
  }

  -- a commit that is refused
  pub refuses : (refusal : Answer) → first_refusal (refusals_of_commit totals control) ≡ Some refusal
      → CommitsBuffer bound (view_of store holdings) control (Ok refusal) (view_of store holdings)
  refuses refusal refused = stays (Ok refusal) (record { outcome = rw refused (refl, refl) })

  -- a commit that finds no memory
  pub finds_none : first_refusal (refusals_of_commit totals control) ≡ None
      → CommitsBuffer bound (view_of store holdings) control (Err (record {})) (view_of store holdings)
  finds_none passes = stays (Err (record {})) (passes, refl)

  -- the holdings after a commit that is done
  abbrev ended : Holdings
  ended = record holdings { transactions = slice_set holdings.transactions control None }

  -- a commit of nothing
  ends : first_refusal (refusals_of_commit totals control) ≡ None
      → transaction_at holdings.transactions control ≡ Some [] → CommitsBuffer bound (view_of store holdings) control
      (Ok (answer.Done value.Empty)) (view_of store ended) × IsSound store.layout store.state ended
  ends passes none = (
    record {
      answer = record { outcome = rw (passes, none) (refl, refl) };
      disk = rw (passes, none) (idles begins ended.transactions [] _ refl (λ refused. absurd (refused tt)));
    },
    retransacted begins.sound (held_with totals.mode totals.next holdings.transactions control None begins.sound.buffers
        (none_held totals.mode totals.next)),
  )

-- ---- a group on the disk

-- no transaction is left where one more was dropped
none_left : (transactions : List (Option (List Change))) (control : ℕ)
    → without_transactions (slice_set transactions control None) ≡ without_transactions transactions
none_left [] control = refl
none_left (first ∷ others) zero = refl
none_left (first ∷ others) (suc control) = ap (λ ts. None ∷ ts) (none_left others control)

module _ {D : Type 0} {bound : Ghosts D} {disk : D} {files : List PlainFile} {sequence tail : ℕ} {holdings : Holdings}
    (begins : Begins bound (ready_store disk files sequence tail holdings) holdings) (control : ℕ)
    (passes : first_refusal (refusals_of_commit (totals_at (StoreReady files sequence) tail holdings) control) ≡ None)
    (first : Change) (others : List Change)
    (some : transaction_at holdings.transactions control ≡ Some (first ∷ others)) where
  abbrev old : Totals
  old = totals_at (StoreReady files sequence) tail holdings

  abbrev next : ℕ
  next = holdings.handles.next

  abbrev there : List File
  there = with_tags holdings.handles.given files

  abbrev after : List File
  after = files_after_all next there (first ∷ others)

  abbrev later : ℕ
  later = sequence_after holdings.layout tail (group_of there (first ∷ others)) sequence

  grouped : group_by_commit old control ≡ first ∷ others
  grouped = rw (passes, some) refl

  buffered : AllByRecursion (IsBuffered there next) (first ∷ others)
  buffered = held_at (Ready there sequence) next holdings.transactions control begins.sound.buffers some

  given : holdings.handles.given ≡ tags_of after
  given = sym ((keeps_all there next (first ∷ others) buffered).1
      ∙ tags_in holdings.handles.given files begins.sound.handles.count)

  mode : with_tags holdings.handles.given (plain after) ≡ after
  mode = ap (λ (tags : List FileTag). with_tags tags (plain after)) given ∙ called_again after

  put : Puts bound disk files sequence tail holdings (ended begins control) first others value.Empty
      (λ F. Committed F old control)
  put = record {
    begins = begins;
    group = one_group (StoreReady files sequence) tail control begins.directory begins.sound passes some;
    wants = λ F. (passes, refl);
    does = λ F result new does. record { outcome = rw (passes, some) does };
    ended = none_left holdings.transactions control;
    after = (
      rw (mode, (keeps_all there next (first ∷ others) buffered).2) refl,
      record {
        found = refl;
        handles = record {
          count = ap length given ∙ length-map after tag_of ∙ sym (length-map after plain_file);
          distinct = begins.sound.handles.distinct;
          below = begins.sound.handles.below;
        };
        buffers = rw mode (held_with (Ready after later) next holdings.transactions control None
            (holds_so there after sequence later holdings.transactions (λ change was. same_buffered there after next
            change (sym (keeps_all there next (first ∷ others) buffered).0) was) begins.sound.buffers) tt);
        apart = begins.sound.apart;
      },
    );
  }

-- a group that the store has answered: it is put down, or the store refused it
pub put_down : {D : Type 0} {bound : Ghosts D} {store : StoreView D} {holdings : Holdings} → IsFound holdings store
    → (begins : Begins bound store holdings) {control : ℕ}
    → first_refusal (refusals_of_commit (totals_of store holdings) control) ≡ None
    → {new : StoreView D} {result : Result (Unit {0}) StoreFault} → PutsBuffer bound store
    (files_of (mode_of holdings.handles.given store.state)) (transaction_at holdings.transactions control) result new
    → let now = later_holdings holdings (ended begins control) result in
    CommitsBuffer bound (view_of store holdings) control (answer_by value.Empty result) (view_of new now)
    × IsSound new.layout new.state now
put_down (FoundFile disk files sequence tail) begins {control} passes {new} {result} does =
    let it = does.gathered in
    let did = puts (put begins control passes it.first it.others it.buffered) new result (rw it.made at does.commits) in
    (record { answer = did.0; disk = rw (grouped begins control passes it.first it.others it.buffered) did.1 }, did.2)

-- a store whose commit is let through
pub found : {D : Type 0} {bound : Ghosts D} {store : StoreView D} {holdings : Holdings} → Begins bound store holdings
    → (control : ℕ) → first_refusal (refusals_of_commit (totals_of store holdings) control) ≡ None
    → IsFound holdings store
found {store} {holdings} begins control passes =
    as_found begins (ready_so store.state store.tail holdings control passes)

-- a commit that is done, with a group on the disk or with nothing to do
pub done : {D : Type 0} {bound : Ghosts D} {store : StoreView D} {holdings : Holdings}
    (begins : Begins bound store holdings) (control : ℕ) {new : StoreView D}
    → first_refusal (refusals_of_commit (totals_of store holdings) control) ≡ None → EndsBuffer bound store
    (files_of (mode_of holdings.handles.given store.state)) (transaction_at holdings.transactions control) new
    → CommitsBuffer bound (view_of store holdings) control (Ok (answer.Done value.Empty))
    (view_of new (ended begins control)) × IsSound new.layout new.state (ended begins control)
done begins control passes (inl none) = rw none.1 (ends begins control passes none.0)
done begins control passes (inr puts) = put_down (found begins control passes) begins passes puts
