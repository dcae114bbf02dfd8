-- The empty body makes a value of no bytes, with the disk that its clause names.
use Rattle.pos_disk.proofs.Common.{ !, Args, List, [], agg, alive, alloc_all, done, enter, free_all, look_at, move}
use Rattle.pos_disk.proofs.Common.{no_more, owns, pass_all, pure_i, qed, raw, refl, returns, says, sets, suffices}
use Rattle.pos_disk.proofs.Common.{written, vnil, vstruct, ‵, ◌$◌, ◌∵◌, ◌∷◌}
use Rattle.pos_disk.proofs.EmptyBodyLemmas.{Passed, ref, slice}
use Rattle.pos_disk.proofs.EmptyBodyLemmas as empty
use Rattle.pos_mirror.specs.contracts.known.Known.written.Key.{name as key}
use contract.Lifetimes.{Lfts}
use denote.Builtin.{u64, u8}
use denote.RattleType.{flat}
use denote.Signature.{types_at}
use Rattle.pos_mirror.specs.contracts.known.Known as kept
use Rattle.pos_mirror.specs.contracts.known.Known.written as f
use Rattle.pos_mirror.proofs.known.Known.written.Statement as stated
use Rattle.pos_mirror.proofs.known.Known.written.Code as code

abbrev passed : List (Passed 3)
passed = ref 0 tt kept.the_row ∷ ref 1 tt u64 ∷ slice 2 tt u8 ∷ []

-- the disk after the write
abbrev made : (κs : Lfts 3) → Args f.signature κs → kept.the_row.Denot
made κs (self, (at, (bytes, _))) = record { memory = written at.now bytes.now self.now.memory }

pub written_spec : {M : Type 1} → stated.statement M
written_spec 𝓤 𝓛 𝓜 𝓡 wired =
    let clauses = f.clauses 𝓛 𝓜.mem 𝓡.returns in
    empty.stated 𝓛 passed kept.the_row clauses 𝓜 𝓡 key code.function (code.unfolded 𝓤 𝓛.H 𝓜 𝓡 wired)
    (λ κs qs bounds a g are.
    let types = types_at f.signature.params κs in let values = empty.values passed κs a in
    qed 𝓛 (raw (alive 𝓛 f.signature κs qs) ∷ ‵ (owns types a values) ∷ []) ∵ enter ! _ _ code.function
    (flat types values) _ $ alloc_all ! (λ l. pass_all ! refl are $ sets ! (agg ! (no_more !)) refl (tt, tt) $ returns !
    (look_at ! 0 refl) $ free_all ! refl $ suffices ! _ (empty.ends 𝓛 passed kept.the_row clauses κs qs bounds a g
    (made κs a)) $ says ! refl $ pure_i ! (kept.the_row.own_val (made κs a) (vstruct vnil ∷ [])) ((λ vss. (tt, tt)), tt)
    ((tt, (refl, tt)), tt) $ move ! (1 ∷ 2 ∷ 0 ∷ []) $ done !))
