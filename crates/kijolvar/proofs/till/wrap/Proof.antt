-- `wrap` takes a loose box apart, and makes a till of what it had.
use Rattle.kijolvar.proofs.Common.{ !, Goes-blank, List, SProp, Stays, Val, WpFn, [], agg, alive, alloc_all, and_then}
use Rattle.kijolvar.proofs.Common.{block_ptr, by, emp, ent, enter, fact, fact_i, fjoin, fld, free_all, fsplit, get}
use Rattle.kijolvar.proofs.Common.{get_in, id⊢, keep, leaves, look_at, move, no_more, nothing, of_opd, owns, pass_all}
use Rattle.kijolvar.proofs.Common.{plain, proved_at, qed, raw, refl, returns, sets, split, stay_dropped, stop, sub}
use Rattle.kijolvar.proofs.Common.{subst, suffices, sym, tables, types_at, use0, vptr, walk_of, whole, yes, ‵, ◌$◌}
use Rattle.kijolvar.proofs.Common.{◌++◌, ◌∵◌, ◌∷◌, ◌≡◌, ◌⊛◌}
use Rattle.kijolvar.specs.contracts.till.wrap.{clauses, ended}
use Rattle.kijolvar.specs.contracts.till.wrap.Key.{name as #self}
use Rattle.kijolvar.proofs.ValueLemmas.{both, RawBox, loose_good, loose_in, loose_out}
use Rattle.kijolvar.proofs.TillLemmas.{R, Z, LZ, g}
use Rattle.kijolvar.proofs.till.wrap.Statement.{statement}
use Rattle.kijolvar.proofs.till.wrap.Code as code

pub wrap_spec : {M : Type 1} → statement M
wrap_spec 𝓤 𝓛 𝓜 𝓡 wired =
    let H = 𝓛.H in let 𝓣 = tables 𝓤 H 𝓜 𝓡 𝓡.env in let c = clauses 𝓛 𝓜.mem 𝓡.returns in
    let hs : Stays ended.signature.params ended.kept = (stay_dropped (plain (λ _. RawBox R Z LZ g)) yes, tt) in
    proved_at 𝓛 ended hs c 𝓜 𝓡 (Goes-blank 𝓛 0 (plain (λ _. RawBox R Z LZ g)) yes (λ κs x f. tt), tt) #self
    code.function (code.unfolded 𝓤 H 𝓜 𝓡 wired) (λ z are.
    let (entry, ghost) = z in let (lifetimes, shares, _, arguments, values) = entry in
    let (loose, _) = arguments in let (words, _) = values in
    let Post : Val → SProp 𝓤 = (walk_of 𝓛 ended hs c).post z in
    let Run : List Val → SProp 𝓤 = λ ws. WpFn 𝓤 H 𝓣.C 𝓣.Λ code.function ws Post in
    let tokens = raw (alive 𝓛 ended.signature lifetimes shares) in
    let owned = ‵ (owns (types_at ended.signature.params lifetimes) arguments values) in
    let asked = raw ((c lifetimes arguments).requires ghost) in
    qed 𝓛 ((tokens ⊛ owned) ∷ asked ∷ []) ∵ split ! $
    move ! (1 ∷ []) $ fsplit ! $ loose_out R Z LZ g ! loose (λ b o h e ws fits.
    let w : Val = both (vptr b o) h in let typed = loose_good R Z LZ g b o h fits in
    suffices ! (Run (w ∷ [])) (subst (λ (us : List Val). ent 𝓤 (Run (w ∷ [])) (Run us)) (sym (λ i. ws i ++ []))
    (id⊢ 𝓤 (Run (w ∷ [])))) $ enter ! 𝓣.C 𝓣.Λ code.function (w ∷ []) Post $ alloc_all !
    (λ l. pass_all ! refl (typed, tt) $ sets ! (of_opd ! (get_in ! (fld ! refl (stop !)) (sub ! 0 refl (whole !)))) refl
    (tt, tt) $ sets ! (of_opd ! (get_in ! (fld ! refl (stop !)) (sub ! 1 refl (whole !)))) refl fits $ sets !
    (of_opd ! (get ! refl)) refl (tt, tt) $ sets ! (agg ! (and_then ! (get ! refl)
    (and_then ! (get ! refl) (no_more !)))) refl typed $ loose_in R Z LZ g ! b o h loose.alloc loose.value $ use0 𝓛
    (raw (fact 𝓤 (loose.value ≡ loose.value))) (fact_i 𝓤 (loose.value ≡ loose.value) (emp 𝓤) refl) $ nothing ! $ nothing
    ! $ fjoin ! $ returns ! (look_at ! 0 refl) $ free_all ! refl $ keep ! (4 ∷ 0 ∷ 2 ∷ 1 ∷ []) $
    by ! (leaves 𝓛 ended hs c z w (record { at = block_ptr b o; alloc = loose.alloc; session = loose.value }) (tt, tt)
    (tt, tt)))))
