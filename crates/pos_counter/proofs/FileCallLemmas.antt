-- What the totals do with a call, for all that their disk may leave before it.
use Rattle.pos_counter.proofs.Common.{◌&&◌, Answer, Answered, Arranges, Asks, Bool, Call, Calls, CallsFiles, Commits}
use Rattle.pos_counter.proofs.Common.{Decided, DiskGhosts, DoesChange, DoesCommit, Empty, Err, FileCall, FilesCalled}
use Rattle.pos_counter.proofs.Common.{FilesStepped, GroupDone, HasFailed, IsUndone, Leaves, LeavesOneOf, LeavesOnly}
use Rattle.pos_counter.proofs.Common.{List, Makes, MatchResult, Mode, NoMemory, None, Nothing, Ok, OnErr, Option}
use Rattle.pos_counter.proofs.Common.{PutsChanges, PutsGroup, Result, Rises, Row, RunsOut, Some, Standing}
use Rattle.pos_counter.proofs.Common.{StandsForEither, Totals, TotalsChange, TotalsDo, TotalsPart, TotalsView, TurnsOff}
use Rattle.pos_counter.proofs.Common.{Value, WhenOff, [], ap, arith, changes_asked, changes_in, cond, file_call}
use Rattle.pos_counter.proofs.Common.{file_rows, first_refusal, given_by, in_doubt, inl, inr, is_none, left_after, not}
use Rattle.pos_counter.proofs.Common.{outcome, own_takes_memory, part_of, part_with, put_at_once, refl, rules, settled}
use Rattle.pos_counter.proofs.Common.{subst, sym, told, transaction_of, true, with_transaction, ℕ, ◌∙◌, ◌∷◌, ◌≡◌, ◌≤◌}
use Rattle.pos_counter.proofs.Common.{◌⊎◌}
use Rattle.pos_counter.proofs.CrashLemmas.{arranged_rest, kept_left, rest_settled, settled_twice}
use Rattle.pos_counter.proofs.LiftLemmas.{decided_cases, decided_none, decided_some, decided_weaker, match_cases}

-- ---- what a change and a commit do

-- what a call with changes does, where nothing refuses it and the disk fails for a cause
abbrev pub Puts : FileCall → Type 0 → Totals → ℕ → Answer → Totals → Type 0
Puts (Makes change) P old n result new = DoesChange P old n change result new
Puts Commits P old n result new =
    DoesCommit P old (with_transaction old n None) (changes_in (transaction_of old n)) result new
Puts other P old n result new = ⊥

-- what comes of its changes: transactions alone may change, where it isn't done or has no changes; or they are done as
-- one group, or the disk fails in them
pub data Comes (P : Type 0) (old : Totals) (result : Answer) (new : Totals) : List TotalsChange → Type 0 where
  Stays : {changes : List TotalsChange} (transactions : List (Option (List TotalsChange))) → ((changes ≡ [] → ⊥)
      → IsUndone (Answered result)) → new ≡ record old { transactions = transactions } → Comes P old result new changes
  Groups : (change : TotalsChange) (others : List TotalsChange) (transactions : List (Option (List TotalsChange)))
      (given : Value) → GroupDone P (record old { transactions = transactions }) (change ∷ others) given result new
      → Comes P old result new (change ∷ others)

grouped : (P : Type 0) (old : Totals) (transactions : List (Option (List TotalsChange))) (change : TotalsChange)
    (others : List TotalsChange) (given : Value) (result : Answer) (new : Totals)
    → RunsOut old (change ∷ others) result new ⊎ GroupDone P (record old { transactions = transactions })
    (change ∷ others) given result new → Comes P old result new (change ∷ others)
grouped P old transactions change others given result new (inl out) = Stays old.transactions (λ some. rw out.2 tt) out.3
grouped P old transactions change others given result new (inr done) = Groups change others transactions given done

pub puts_comes : (asked : FileCall) (P : Type 0) (old : Totals) (n : ℕ) (result : Answer) (new : Totals)
    → Puts asked P old n result new → Comes P old result new (changes_asked old n asked)
puts_comes (Makes change) P old n result new does = elim (match_cases (transaction_of old n) _ _ does) [
  | inl x ↦ rw x.0 (elim (decided_cases x.1) [
    | inl y ↦ grouped P old old.transactions change [] (given_by old.next change) result new y.1
    | inr y ↦ Stays old.transactions (λ some. y.0) y.1
  ])
  | inr x ↦
      let (others, buffered, does) = x in
      let (done, more) = does in
      rw buffered (Stays _ (λ some. absurd (some refl)) more)
]
puts_comes Commits P old n result new does = by (changes_in (transaction_of old n)) does
  where
    by : (changes : List TotalsChange) → DoesCommit P old (with_transaction old n None) changes result new
        → Comes P old result new changes
    by [] does = Stays _ (λ some. absurd (some refl)) does.1
    by (change ∷ others) does = grouped P old _ change others Empty result new does
puts_comes other P old n result new does = absurd does

puts_so : (asked : FileCall) (P Q : Type 0) (old : Totals) (n : ℕ) (result : Answer) (new : Totals)
    → ((changes_asked old n asked ≡ [] → ⊥) → P → Q) → Puts asked P old n result new → Puts asked Q old n result new
puts_so asked P Q old n result new to does = grind (arith, match_cases, decided_weaker)

-- the totals do so
totals_do : (asked : FileCall) {old : TotalsPart} (n : ℕ) {result : Answer} {new : TotalsPart}
    → PutsChanges (λ answer totals. Puts asked (Rises old.failures new.failures) old.totals n answer totals) old
    (changes_asked old.totals n asked) result new → TotalsDo asked old n result new
totals_do asked n puts = grind arith

-- it keeps the layout, and without changes the mode
comes_layout : {P : Type 0} {old new : Totals} {result : Answer} {changes : List TotalsChange}
    → Comes P old result new changes → new.layout ≡ old.layout
comes_layout (Stays transactions undone same) = ap (λ (t : Totals). t.layout) same
comes_layout (Groups change others transactions given (inl done)) = ap (λ (t : Totals). t.layout) done.1.totals
comes_layout (Groups change others transactions given (inr failed)) = ap (λ (t : Totals). t.layout) failed.2

-- ---- a call of the totals' own

-- what holds anyhow holds while the totals are off
when_off : (mode : Mode) (P : Type 0) → P → WhenOff mode P
when_off mode P holds = grind arith

-- the group of a change is what it puts there at once, where nothing refuses it
at_once : (o : Option Answer) (transacting : Bool) (change : TotalsChange)
    → cond (is_none o && not transacting) (change ∷ []) [] ≡ cond (is_none o) (put_at_once transacting change) []
at_once o transacting change = grind arith

module _ {D : Type 0} (bound : DiskGhosts D) (old new : TotalsView D) (n : ℕ) (asked : Call) where
  abbrev rows : List Row
  rows = file_rows old.totals n (file_call asked)

  abbrev changes : List TotalsChange
  changes = changes_asked old.totals n (file_call asked)

  -- the totals are as they were
  same_part : (left : List Standing) (failures : ℕ) → new.totals ≡ old.totals
      → part_with new.totals left failures ≡ part_with old.totals left failures
  same_part left failures same = ap (λ (t : Totals). part_with t left failures) same

  same_settled : new.totals ≡ old.totals → (left : List Standing)
      → settled new.totals.layout new.totals.mode left ≡ settled old.totals.layout old.totals.mode left
  same_settled same left = ap (λ (t : Totals). settled t.layout t.mode left) same

  -- one with changes to put on the disk as a group, or none, which nothing refuses
  module _ (result : Answer) (none : first_refusal rows ≡ None) (puts : PutsGroup bound old changes (Ok result) new)
      (does : Puts (file_call asked) (HasFailed bound old.disk new.disk) old.totals n result new.totals) where
    comes : Comes (HasFailed bound old.disk new.disk) old.totals result new.totals changes
    comes = puts_comes (file_call asked) (HasFailed bound old.disk new.disk) old.totals n result new.totals does

    layout : new.totals.layout ≡ old.totals.layout
    layout = comes_layout comes

    answers : (left after : List Standing) (was is : ℕ)
        → ((changes ≡ [] → ⊥) → HasFailed bound old.disk new.disk → Rises was is)
        → after ≡ left_after (part_with old.totals left was) changes new.totals.mode
        → TurnsOff old.totals.mode new.totals.mode ⊎ (is ≡ was) → was ≤ is
        → FilesCalled n asked (part_with old.totals left was) (Ok result) (part_with new.totals after is)
    answers left after was is fails leaves counts later = search (rules, decided_none, totals_do, puts_so)

    moves : (left : List Standing) → Leaves bound old left → FilesStepped bound left old n asked (Ok result) new
    moves left leaves =
        let after = left_after (part_of bound old left) changes new.totals.mode in
        let passes = puts.crash leaves.honest left
        (when_off old.totals.mode (LeavesOneOf left (bound.state old.disk)) leaves.leaves) in
        record {
          after = after;
          leaves = record {
            honest = puts.kept.honest.0 leaves.honest;
            leaves = passes.now;
            is_settled = rw layout (settled_twice old.totals.layout
                (in_doubt old.totals.layout old.totals.next left changes old.totals.mode) new.totals.mode);
          };
          answer = answers left after (bound.state old.disk).failures (bound.state new.disk).failures
              (λ some failed. failed leaves.honest) refl (puts.counts leaves.honest) (puts.kept.later leaves.honest);
          any_moment = subst (λ l. LeavesOnly (bound.state old.disk) (bound.state new.disk) (StandsForEither l after))
              (sym leaves.is_settled) passes.any_moment;
        }

    unrefused : (cs : List TotalsChange) → changes ≡ cs → CallsFiles bound old n asked (Ok result) new
    unrefused cs some = grind (arith, comes, layout, answers, kept_left, moves)

  -- what it is answered, and what its changes do to the disk
  abbrev GroupCalls : FileCall → Result Answer NoMemory → Type 0
  GroupCalls asks outcome =
      let rows = file_rows old.totals n asks in
      MatchResult outcome
      (λ result. Decided rows result (new.totals ≡ old.totals)
      (Puts asks (HasFailed bound old.disk new.disk) old.totals n result new.totals))
      (λ want. (first_refusal rows ≡ None) × (new.totals ≡ old.totals))
      × PutsGroup bound old (cond (is_none (first_refusal rows)) (changes_asked old.totals n asks) []) outcome new

  group_calls : (outcome : Result Answer NoMemory) → OnErr outcome (own_takes_memory asked ≡ true)
      → GroupCalls (file_call asked) outcome → (o : Option Answer) → first_refusal rows ≡ o
      → CallsFiles bound old n asked outcome new
  group_calls (Ok result) takes (told, puts) (Some refusal) e = search (rules, same_settled, decided_some, same_part)
  group_calls (Ok result) takes (told, puts) None e =
      unrefused result e (rw e at puts) (rw e at told.outcome) changes refl
  group_calls (Err want) takes (told, puts) (Some refusal) e = let bad = sym e ∙ told.0 in cc
  group_calls (Err want) takes (told, puts) None e = search (rules, same_settled, same_part)

  -- what it does that asks this
  pub calls_files : (outcome : Result Answer NoMemory) (asks : FileCall) → file_call asked ≡ asks
      → OnErr outcome (own_takes_memory asked ≡ true) → Calls bound old n asks outcome new
      → CallsFiles bound old n asked outcome new
  calls_files (Ok result) (Asks question) is takes (tells, same) =
      search (rules, same_settled, decided_weaker, same_part)
  calls_files (Err want) (Asks question) is takes (tells, same) = search (rules, same_settled, same_part)
  calls_files outcome (Makes change) is takes changes = search (rules, group_calls, at_once)
  calls_files outcome Commits is takes commits = search (rules, group_calls)
  calls_files (Ok result) (Arranges arrangement) is takes arranged = inl (record {
    disk = arranged.disk;
    is_settled = λ left. elim (decided_cases arranged.answer) [
      | inl x ↦
          let (unrefused, done) = x in
          let (answered, arranges) = done in
          ap (λ (t : Totals). settled t.layout t.mode left) arranges ∙ rest_settled
          (arranged_rest (part_with old.totals left 0) n arrangement) left
      | inr x ↦ same_settled x.1 left
    ];
    answer = λ left failures so. rw is (decided_weaker (λ done. (
      done.0,
      ap (λ (t : Totals). part_with t left failures) done.1,
    )) (same_part left failures) arranged.answer);
  })
  calls_files (Err want) (Arranges arrangement) is takes arranged = absurd arranged
  calls_files outcome Nothing is takes calls = absurd calls
