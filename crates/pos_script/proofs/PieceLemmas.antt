-- Pieces of a text, and its lines and words.
use Rattle.std.proofs.Common.{◌≡◌, ◌++◌, ◌∷◌, ℕ, ◌+◌, ◌<◌, ◌≤◌, List, [], true, false, eqb, get_or, take, drop, length}
use Rattle.std.proofs.Common.{ap, ◌∙◌, refl, arith}
use Rattle.std.proofs.lemmas.List.{drop_more, take_more, drop_all, take_all}
use Rattle.pos_script.specs.Lines.{onto_first, pieces}

-- a text before the first of some pieces
abbrev pub front_onto : List ℕ → List (List ℕ) → List (List ℕ)
front_onto [] ps = ps
front_onto (b ∷ bs) ps = onto_first b (front_onto bs ps)

front_onto_push : (xs : List ℕ) (b : ℕ) (ps : List (List ℕ))
    → front_onto (xs ++ b ∷ []) ps ≡ front_onto xs (onto_first b ps)
front_onto_push [] b ps = refl
front_onto_push (x ∷ xs) b ps = ap (onto_first x) (front_onto_push xs b ps)

pub front_onto_nil : (xs : List ℕ) (ps : List (List ℕ)) → front_onto xs ([] ∷ ps) ≡ xs ∷ ps
front_onto_nil [] ps = refl
front_onto_nil (x ∷ xs) ps = ap (onto_first x) (front_onto_nil xs ps)

-- one more byte that is no cut
pub front_more : (c : ℕ) (text : List ℕ) {i : ℕ} (d : ℕ) → i < length text → eqb (get_or text i d) c ≡ false
    → pieces c text ≡ front_onto (take i text) (pieces c (drop i text))
    → pieces c text ≡ front_onto (take (i + 1) text) (pieces c (drop (i + 1) text))
front_more c text {i} d lt ne h = rw (take_more text i d lt, front_onto_push)
    (h ∙ ap (front_onto (take i text)) (rw (drop_more text i d lt, ne) refl))

-- a byte that is a cut
pub front_cut : (c : ℕ) (text : List ℕ) {i : ℕ} (d : ℕ) → i < length text → eqb (get_or text i d) c ≡ true
    → pieces c text ≡ front_onto (take i text) (pieces c (drop i text))
    → pieces c text ≡ take i text ∷ pieces c (drop (i + 1) text)
front_cut c text {i} d lt eq h =
    h ∙ rw (drop_more text i d lt, eq) (front_onto_nil (take i text) (pieces c (drop (i + 1) text)))

-- no cut at all
pub front_end : (c : ℕ) {text : List ℕ} {i : ℕ} → length text ≤ i
    → pieces c text ≡ front_onto (take i text) (pieces c (drop i text)) → pieces c text ≡ text ∷ []
front_end c {text} {i} le h = rw (drop_all i text le, take_all i text le) at h ∙ front_onto_nil text []

-- there is always a piece
pub some_piece : (c : ℕ) (text : List ℕ) → 0 < length (pieces c text)
some_piece c [] = omega arith
some_piece c (b ∷ bs) = grind arith
