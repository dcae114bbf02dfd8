-- The empty body makes a value of no bytes, with no moments.
use Rattle.pos_disk.proofs.Common.{ !, [], agg, alive, alloc_all, done, enter, free_all, look_at, move, no_more, owns}
use Rattle.pos_disk.proofs.Common.{pass_all, pure_i, qed, raw, refl, returns, says, sets, suffices, vnil, vstruct, ‵}
use Rattle.pos_disk.proofs.Common.{◌$◌, ◌∵◌, ◌∷◌}
use Rattle.pos_disk.proofs.EmptyBodyLemmas as empty
use Rattle.pos_disk.specs.contracts.past.Past.new.Key.{name as key}
use Rattle.pos_disk.specs.contracts.past.Past as past
use Rattle.pos_disk.specs.contracts.past.Past.new as f
use Rattle.pos_disk.proofs.past.Past.new.Statement as stated
use Rattle.pos_disk.proofs.past.Past.new.Code as code

abbrev made : past.the_row.Denot
made = record { moments = [] }

pub new_spec : {M : Type 1} → stated.statement M
new_spec 𝓤 𝓛 𝓜 𝓡 wired =
    let clauses = f.clauses 𝓛 𝓜.mem 𝓡.returns in
    empty.stated {n = 0} 𝓛 [] past.the_row clauses 𝓜 𝓡 key code.function (code.unfolded 𝓤 𝓛.H 𝓜 𝓡 wired)
    (λ κs qs bounds a g are. qed 𝓛 (raw (alive 𝓛 f.signature κs qs) ∷ ‵ (owns [] a tt) ∷ []) ∵ enter ! _ _ code.function
    [] _ $ alloc_all ! (λ l. pass_all ! refl are $ sets ! (agg ! (no_more !)) refl (tt, tt) $ returns !
    (look_at ! 0 refl) $ free_all ! refl $
    suffices ! _ (empty.ends {n = 0} 𝓛 [] past.the_row clauses κs qs bounds a g made) $ says ! refl $ pure_i !
    (past.the_row.own_val made (vstruct vnil ∷ [])) ((λ vss. (tt, tt)), tt) ((tt, (refl, tt)), tt) $ move !
    (1 ∷ 2 ∷ 0 ∷ []) $ done !))
