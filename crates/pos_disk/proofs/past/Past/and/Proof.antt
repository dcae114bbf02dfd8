-- The empty body makes a value of no bytes, with the moments that its clause names.
use Rattle.pos_disk.proofs.Common.{ !, Args, [], agg, alive, alloc_all, done, enter, free_all, look_at, moment_of, move}
use Rattle.pos_disk.proofs.Common.{no_more, owns, pass_all, pure_i, qed, raw, refl, returns, says, sets, suffices, vnil}
use Rattle.pos_disk.proofs.Common.{vstruct, List, ‵, ◌$◌, ◌++◌, ◌∵◌, ◌∷◌}
use Rattle.pos_disk.proofs.EmptyBodyLemmas.{Passed, ref, slice}
use Rattle.pos_disk.proofs.EmptyBodyLemmas as empty
use Rattle.pos_disk.specs.contracts.past.Past.and.Key.{name as key}
use contract.Lifetimes.{Lfts}
use denote.Builtin.{u32, u8}
use denote.RattleType.{flat}
use denote.Signature.{types_at}
use Rattle.pos_disk.specs.contracts.past.Past as past
use Rattle.pos_disk.specs.contracts.past.Past.and as f
use Rattle.pos_disk.proofs.past.Past.and.Statement as stated
use Rattle.pos_disk.proofs.past.Past.and.Code as code

abbrev passed : List (Passed 4)
passed = ref 0 tt past.the_row ∷ slice 1 tt u8 ∷ slice 2 tt u32 ∷ ref 3 tt u32 ∷ []

-- the moments afterwards
abbrev made : (κs : Lfts 4) → Args f.signature κs → past.the_row.Denot
made κs (self, (bytes, (stamps, (stamp, _)))) =
    record { moments = self.now.moments ++ moment_of bytes.now stamps.now stamp.now ∷ [] }

pub and_spec : {M : Type 1} → stated.statement M
and_spec 𝓤 𝓛 𝓜 𝓡 wired =
    let clauses = f.clauses 𝓛 𝓜.mem 𝓡.returns in
    empty.stated 𝓛 passed past.the_row clauses 𝓜 𝓡 key code.function (code.unfolded 𝓤 𝓛.H 𝓜 𝓡 wired)
    (λ κs qs bounds a g are.
    let types = types_at f.signature.params κs in let values = empty.values passed κs a in
    qed 𝓛 (raw (alive 𝓛 f.signature κs qs) ∷ ‵ (owns types a values) ∷ []) ∵ enter ! _ _ code.function
    (flat types values) _ $ alloc_all ! (λ l. pass_all ! refl are $ sets ! (agg ! (no_more !)) refl (tt, tt) $ returns !
    (look_at ! 0 refl) $ free_all ! refl $ suffices ! _ (empty.ends 𝓛 passed past.the_row clauses κs qs bounds a g
    (made κs a)) $ says ! refl $ pure_i ! (past.the_row.own_val (made κs a) (vstruct vnil ∷ [])) ((λ vss. (tt, tt)), tt)
    ((tt, (refl, tt)), tt) $ move ! (1 ∷ 2 ∷ 0 ∷ []) $ done !))
