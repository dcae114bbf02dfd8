-- A function with an empty body makes a value of no bytes, whose ghost fields its clause names. It takes shared
-- references alone, which only the clause reads.
use Rattle.pos_disk.proofs.Common.{Logic, Stays, Ura, Val, Walks, WpFn, WpFn-mono, [], ends_at, ent, entered, fst∗}
use Rattle.pos_disk.proofs.Common.{on_entry, refl, tables, tables_of, triple_of, via, vnil, vptr, vstruct, walk_Meets}
use Rattle.pos_disk.proofs.Common.{walk_of, walked, List, ℕ, ◌∷◌, ◌≡◌}
use base.Fml.{ftrue}
use contract.Lifetimes.{AllOutlive, Lfts, Shares, Within, lft_at}
use contract.Running.{Running}
use denote.Exit.{Last, left, yes}
use denote.Laws.{Are, Is, Ises, Spells, Tells, Tellss, valss}
use denote.RattleType.{Denots, RattleType, Valss, flat}
use denote.Ref.{ShrRef, shr_Tells}
use denote.Signature.{Slot, plain, types_at}
use denote.Slice.{ShrSlice, shr_slice_Tells, slice_val}
use denote.Triple.Clauses.{Clauses, Ended, closing}
use denote.Triple.End.{Fins, all}
use denote.Triple.Statement.{Triple}
use denote.Triple.Walked.{AllGo, Ending, Goes-none, fits_of, stay_none}
use lib.ListN.{length}
use mir.Syntax.{Fn, named}
use mir.Val.{WT}
use prog.Model.{Model}
use prog.Routine.{Callee}
use prog.Wp.{Closed}

-- A reference that is passed: its type, its machine value, and that a call leaves nothing to say of it.
pub record Passed (n : ℕ) : Type 1 where
  pub row : Lfts n → RattleType
  pub value : (κs : Lfts n) → (row κs).Denot → Val
  pub tells : (κs : Lfts n) → Tells (row κs) (Is (row κs)) (λ x. value κs x ∷ [])
  pub typed : (κs : Lfts n) (x : (row κs).Denot) → Is (row κs) x (value κs x ∷ []) → WT (value κs x)
  pub last : (κs : Lfts n) (x : (row κs).Denot) → Last ((row κs).exit yes) x
  pub silent : (κs : Lfts n) (x : (row κs).Denot) (w : Last ((row κs).exit yes) x)
      → left ((row κs).exit yes) x w ≡ ftrue

module _ {n : ℕ} where
  -- to one value, at the lifetime with this number
  abbrev pub ref : (j : ℕ) → Within n j → RattleType → Passed n
  ref j ok R = record {
    row = λ κs. ShrRef (named j) (lft_at n j ok κs) R;
    value = λ κs x. vptr x.ref_ptr.0 x.ref_ptr.1;
    tells = λ κs. shr_Tells (named j) (lft_at n j ok κs) R;
    typed = λ κs x is. tt;
    last = λ κs x. tt;
    silent = λ κs x w. refl;
  }

  -- to a slice
  abbrev pub slice : (j : ℕ) → Within n j → RattleType → Passed n
  slice j ok R = record {
    row = λ κs. ShrSlice (named j) (lft_at n j ok κs) R;
    value = λ κs x. slice_val x.ref_ptr (length x.now);
    tells = λ κs. shr_slice_Tells (named j) (lft_at n j ok κs) R;
    typed = λ κs x is. let (known, shared) = is in let (is_value, room) = known in (tt, (record { fits = room.0 }, tt));
    last = λ κs x. tt;
    silent = λ κs x w. refl;
  }

  abbrev pub slots : List (Passed n) → List (Slot n)
  slots [] = []
  slots (p ∷ ps) = plain p.row ∷ slots ps

  abbrev pub ended : List (Passed n) → RattleType → Ended
  ended ps made = record {
    signature = record { lifetimes = n; outlives = []; params = slots ps; result = plain (λ κs. made) };
    kept = all yes (slots ps);
  }

  abbrev pub stays : (ps : List (Passed n)) → Stays (slots ps) (all yes (slots ps))
  stays [] = tt
  stays (p ∷ ps) = (stay_none p.row yes, stays ps)

  goes : {M : Type 1} {𝓤 : Ura M} (𝓛 : Logic 𝓤) (ps : List (Passed n))
      → AllGo 𝓛 n (slots ps) (all yes (slots ps)) (stays ps)
  goes 𝓛 [] = tt
  goes 𝓛 (p ∷ ps) = (Goes-none 𝓛 n p.row yes p.silent, goes 𝓛 ps)

  module _ (κs : Lfts n) where
    abbrev pub spelled : (ps : List (Passed n)) → Spells (types_at (slots ps) κs)
    spelled [] = tt
    spelled (p ∷ ps) = (λ x. p.value κs x ∷ [], spelled ps)

    tells : (ps : List (Passed n)) → Tellss (types_at (slots ps) κs) (Ises (types_at (slots ps) κs)) (spelled ps)
    tells [] = tt
    tells (p ∷ ps) = (p.tells κs, tells ps)

    -- each argument is of its type
    abbrev pub AreTyped : (ps : List (Passed n)) → Denots (types_at (slots ps) κs) → Type 0
    AreTyped [] a = Unit {0}
    AreTyped (p ∷ ps) a = (Unit {0} × WT (p.value κs a.0)) × AreTyped ps a.1

    typed : (ps : List (Passed n)) (a : Denots (types_at (slots ps) κs))
        → Are (types_at (slots ps) κs) (Ises (types_at (slots ps) κs)) a (valss (types_at (slots ps) κs) (spelled ps) a)
        → AreTyped ps a
    typed [] a are = tt
    typed (p ∷ ps) a are = ((tt, p.typed κs a.0 are.0), typed ps a.1 are.1)

    abbrev pub lasts : (ps : List (Passed n)) (a : Denots (types_at (slots ps) κs))
        → Fins κs (slots ps) (all yes (slots ps)) a
    lasts [] a = tt
    lasts (p ∷ ps) a = (p.last κs a.0, lasts ps a.1)

    fit : (ps : List (Passed n)) (a : Denots (types_at (slots ps) κs))
        → fits_of κs (slots ps) (all yes (slots ps)) (stays ps) a (lasts ps a)
    fit [] a = tt
    fit (p ∷ ps) a = (tt, fit ps a.1)

  -- the machine values of the arguments
  abbrev pub values : (ps : List (Passed n)) (κs : Lfts n) → Denots (types_at (slots ps) κs)
      → Valss (types_at (slots ps) κs)
  values ps κs a = valss (types_at (slots ps) κs) (spelled κs ps) a

  module _ {M : Type 1} {𝓤 : Ura M} (𝓛 : Logic 𝓤) (ps : List (Passed n)) (made : RattleType)
      (c : Clauses 𝓤 (ended ps made)) where
    abbrev T : Ended
    T = ended ps made

    -- how its walk ends, in this value
    pub ends : (κs : Lfts n) (qs : Shares n) (bounds : AllOutlive n [] κs) (a : Denots (types_at (slots ps) κs))
        (g : (c κs a).ghost) (result : made.Denot)
        → let y : (walk_of 𝓛 T (stays ps) c).Ghost = ((κs, qs, bounds, a, values ps κs a), g) in
        ent 𝓤 (Ending 𝓛 T (stays ps) c y (vstruct vnil) result (lasts κs ps a))
        ((walk_of 𝓛 T (stays ps) c).post y (vstruct vnil))
    ends κs qs bounds a g result = ends_at 𝓛 T (stays ps) c ((κs, qs, bounds, a, values ps κs a), g)
        (vstruct vnil) result (lasts κs ps a) (fit κs ps a)

    -- from the walk of its code to what is stated of it
    pub stated : (𝓜 : Model 𝓤 𝓛.H) (𝓡 : Running 𝓤 𝓛.H 𝓜) (key : Callee) (function : Fn) → let t = tables 𝓤 𝓛.H 𝓜 𝓡 𝓡.env
        in Closed 𝓤 𝓛.H t.C t.Λ key function → ((κs : Lfts n) (qs : Shares n) (bounds : AllOutlive n [] κs) (a : Denots
        (types_at (slots ps) κs)) (g : (c κs a).ghost) → AreTyped κs ps a → ent 𝓤 (on_entry 𝓛 T.signature κs qs a
        (values ps κs a)) (WpFn 𝓤 𝓛.H t.C t.Λ function (flat (types_at (slots ps) κs) (values ps κs a))
        ((walk_of 𝓛 T (stays ps) c).post ((κs, qs, bounds, a, values ps κs a), g))))
        → Triple 𝓤 (t.C key) (triple_of 𝓛 T.signature (closing 𝓛 T c))
    unfolding tables_of
    stated 𝓜 𝓡 key function closed walk =
        let t = tables 𝓤 𝓛.H 𝓜 𝓡 𝓡.env in
        let run = WpFn 𝓤 𝓛.H t.C t.Λ function in
        let walks : Walks 𝓛 T (stays ps) run c = walked 𝓛 T (stays ps) c run (λ κs. spelled κs ps) (λ κs. tells κs ps)
        (λ κs qs bounds a g are. via 𝓤 _ (fst∗ 𝓤 _ ((c κs a).requires g)) (walk κs qs bounds a g (typed κs ps a are)))
        in
        entered 𝓤 𝓛.H (triple_of 𝓛 T.signature (closing 𝓛 T c)) t.C t.Λ key function closed
        (walk_Meets 𝓛 T (stays ps) (goes 𝓛 ps) c run (WpFn-mono 𝓤 𝓛.H 𝓛.laws (tables_of 𝓤 𝓛.H 𝓜 t) function) walks)
