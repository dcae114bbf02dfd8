-- The empty body makes a value of no bytes, with the bytes that its clause names.
use Rattle.pos_disk.proofs.Common.{ !, Args, List, [], agg, alive, alloc_all, done, enter, free_all, look_at, move}
use Rattle.pos_disk.proofs.Common.{no_more, owns, pass_all, pure_i, qed, raw, refl, returns, says, sets, suffices}
use Rattle.pos_disk.proofs.Common.{vnil, vstruct, ‵, ◌$◌, ◌∵◌, ◌∷◌}
use Rattle.pos_disk.proofs.EmptyBodyLemmas.{Passed, ref}
use Rattle.pos_disk.proofs.EmptyBodyLemmas as empty
use Rattle.kijolvar.specs.Errands.{file_after}
use Rattle.kijolvar.specs.contracts.host_file.HostFile.after.Key.{name as key}
use contract.Lifetimes.{Lfts}
use denote.RattleType.{flat}
use denote.Signature.{types_at}
use Rattle.kijolvar.specs.contracts.errands.Errand as errand
use Rattle.kijolvar.specs.contracts.host_file.HostFile as file
use Rattle.kijolvar.specs.contracts.host_file.HostFile.after as f
use Rattle.kijolvar.proofs.host_file.HostFile.after.Statement as stated
use Rattle.kijolvar.proofs.host_file.HostFile.after.Code as code

abbrev passed : List (Passed 2)
passed = ref 0 tt file.the_row ∷ ref 1 tt errand.the_row ∷ []

-- the file after the errand
abbrev made : (κs : Lfts 2) → Args f.signature κs → file.the_row.Denot
made κs (self, (errand, _)) = record { disk = file_after errand.now self.now.disk }

pub after_spec : {M : Type 1} → stated.statement M
after_spec 𝓤 𝓛 𝓜 𝓡 wired =
    let clauses = f.clauses 𝓛 𝓜.mem 𝓡.returns in
    empty.stated 𝓛 passed file.the_row clauses 𝓜 𝓡 key code.function (code.unfolded 𝓤 𝓛.H 𝓜 𝓡 wired)
    (λ κs qs bounds a g are.
    let types = types_at f.signature.params κs in let values = empty.values passed κs a in
    qed 𝓛 (raw (alive 𝓛 f.signature κs qs) ∷ ‵ (owns types a values) ∷ []) ∵ enter ! _ _ code.function
    (flat types values) _ $ alloc_all ! (λ l. pass_all ! refl are $ sets ! (agg ! (no_more !)) refl (tt, tt) $ returns !
    (look_at ! 0 refl) $ free_all ! refl $ suffices ! _ (empty.ends 𝓛 passed file.the_row clauses κs qs bounds a g
    (made κs a)) $ says ! refl $ pure_i ! (file.the_row.own_val (made κs a) (vstruct vnil ∷ [])) ((λ vss. (tt, tt)), tt)
    ((tt, (refl, tt)), tt) $ move ! (1 ∷ 2 ∷ 0 ∷ []) $ done !))
