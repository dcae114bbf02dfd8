-- The empty body makes a value of no bytes, with the calls that its clause names.
use Rattle.pos_disk.proofs.Common.{ !, Args, List, [], agg, alive, alloc_all, done, enter, free_all, look_at, move}
use Rattle.pos_disk.proofs.Common.{no_more, owns, pass_all, pure_i, qed, raw, refl, returns, says, sets, suffices, vnil}
use Rattle.pos_disk.proofs.Common.{vstruct, ‵, ◌$◌, ◌++◌, ◌∵◌, ◌∷◌}
use Rattle.pos_disk.proofs.EmptyBodyLemmas.{Passed, ref, slice}
use Rattle.pos_disk.proofs.EmptyBodyLemmas as empty
use Rattle.pos_file.proofs.Common.{None, Some, cond}
use Rattle.pos_file.specs.Calls.{call_of}
use Rattle.pos_file.specs.contracts.history.CallHistory.and.Key.{name as key}
use contract.Lifetimes.{Lfts}
use denote.Builtin.{bool, u64, u8}
use denote.RattleType.{flat}
use denote.Signature.{types_at}
use Rattle.pos_file.specs.contracts.history.CallHistory as history
use Rattle.pos_file.specs.contracts.history.CallHistory.and as f
use Rattle.pos_file.specs.contracts.history.CallKind as kind
use Rattle.pos_file.proofs.history.CallHistory.and.Statement as stated
use Rattle.pos_file.proofs.history.CallHistory.and.Code as code

abbrev passed : List (Passed 6)
passed =
    ref 0 tt history.the_row ∷ ref 1 tt kind.the_row ∷ ref 2 tt u64 ∷ slice 3 tt u8 ∷ ref 4 tt bool ∷ ref 5 tt u64 ∷ []

-- the history with one call more
abbrev made : (κs : Lfts 6) → Args f.signature κs → history.the_row.Denot
made κs (self, (kind, (at, (bytes, (is_done, (number, _)))))) = record {
  calls = self.now.calls ++ call_of kind.now at.now bytes.now (cond is_done.now (Some number.now) None) ∷ [];
}

pub and_spec : {M : Type 1} → stated.statement M
and_spec 𝓤 𝓛 𝓜 𝓡 wired =
    let clauses = f.clauses 𝓛 𝓜.mem 𝓡.returns in
    empty.stated 𝓛 passed history.the_row clauses 𝓜 𝓡 key code.function (code.unfolded 𝓤 𝓛.H 𝓜 𝓡 wired)
    (λ κs qs bounds a g are.
    let types = types_at f.signature.params κs in let values = empty.values passed κs a in
    qed 𝓛 (raw (alive 𝓛 f.signature κs qs) ∷ ‵ (owns types a values) ∷ []) ∵ enter ! _ _ code.function
    (flat types values) _ $ alloc_all ! (λ l. pass_all ! refl are $ sets ! (agg ! (no_more !)) refl (tt, tt) $ returns !
    (look_at ! 0 refl) $ free_all ! refl $ suffices ! _ (empty.ends 𝓛 passed history.the_row clauses κs qs bounds a g
    (made κs a)) $ says ! refl $ pure_i ! (history.the_row.own_val (made κs a) (vstruct vnil ∷ []))
    ((λ vss. (tt, tt)), tt) ((tt, (refl, tt)), tt) $ move ! (1 ∷ 2 ∷ 0 ∷ []) $ done !))
