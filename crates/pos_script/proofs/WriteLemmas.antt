-- Texts that are written one after another.
use Rattle.std.proofs.Common.{◌≡◌, ◌++◌, ◌∷◌, ◌∙◌, [], ℕ, ◌+◌, ◌<◌, List, length, get_or, take, drop, sym, ap, refl}
use Rattle.std.proofs.Common.{append_assoc, take-append-drop, flat_map, length-append, arith}
use Rattle.std.specs.Prelude.{Result, Ok, Err, IsErrAnd}
use Rattle.pos_streams.specs.Streams.{Appends, Given}
use Rattle.std.proofs.lemmas.List.{drop_more}
use Rattle.std.proofs.lemmas.List.Concat.{flat_map-append}
use Rattle.pos_streams.proofs.StreamLemmas.{Appends-trans, Fails-trans}
use Rattle.hex.specs.Hex.{encode_with, encode_lower}
use Rattle.pos_script.specs.Glyphs.{characters_text}
use Rattle.pos_script.specs.Writing.{IsCut, Writes}

-- where one part is cut, so is the whole
cut_at : {X : Type 0} (f : X → List ℕ) (ps : List X) (i : ℕ) (d : X) {bytes : List ℕ} (front back : List ℕ)
    → i < length ps → bytes ≡ f (get_or ps i d) → bytes ≡ front ++ back
    → flat_map f ps ≡ (flat_map f (take i ps) ++ front) ++ (back ++ flat_map f (drop (i + 1) ps))
cut_at f ps i d front back lt is e =
    let a = flat_map f (take i ps) in
    let b = flat_map f (drop (i + 1) ps) in
    ap (flat_map f) (sym (take-append-drop i ps)) ∙ flat_map-append f (take i ps) (drop i ps) ∙ ap
    (λ xs. a ++ flat_map f xs) (drop_more ps i d lt) ∙ ap (λ x. a ++ (x ++ b)) (sym is ∙ e) ∙ ap (λ x. a ++ x)
    (append_assoc front back b) ∙ sym (append_assoc a front (back ++ b))

-- characters in hex are each in turn
pub hex_of_glyphs : {G : Type 0} (character : G → ℕ) (glyphs : List G)
    → flat_map (λ glyph. encode_lower (character glyph ∷ [])) glyphs ≡ characters_text character glyphs
unfolding encode_with
hex_of_glyphs character [] = refl
hex_of_glyphs character (glyph ∷ glyphs) =
    ap (λ rest. encode_lower (character glyph ∷ []) ++ rest) (hex_of_glyphs character glyphs)

-- a text that isn't empty stays so
longer : (xs ys : List ℕ) → 0 < length xs → 0 < length (xs ++ ys)
longer xs ys lt = omega (arith, length-append xs ys)

-- a fault before the rest of a text
pub failed_front : {F : Type 0} (Q : F → Type 0) (a : Given) {b : Given} {first : List ℕ} (rest : List ℕ)
    (result : Result (Unit {0}) F) → IsErrAnd result Q → IsCut a b first → Writes a b (first ++ rest) result
failed_front Q a rest (Ok u) is w = absurd is
failed_front Q a rest (Err f) is w =
    (w.0, w.1 ++ rest, ap (λ x. x ++ rest) w.2 ∙ append_assoc w.0 w.1 rest, longer w.1 rest w.3, w.4)

-- a text behind one that was written
pub behind : {F : Type 0} (a b c : Given) (first second : List ℕ) (result : Result (Unit {0}) F) → Appends a b first
    → Writes b c second result → Writes a c (first ++ second) result
behind a b c first second (Ok u) done w = Appends-trans a b c first second done w
behind a b c first second (Err e) done w = (
  first ++ w.0,
  w.1,
  ap (λ x. first ++ x) w.2 ∙ sym (append_assoc first w.0 w.1),
  w.3,
  Fails-trans a b c first w.0 done w.4,
)

-- a fault between a text that was written and one that was to be
pub failed_between : {F : Type 0} (Q : F → Type 0) (a : Given) {b c : Given} (first : List ℕ) {second : List ℕ}
    (third : List ℕ) (result : Result (Unit {0}) F) → IsErrAnd result Q → Appends a b first → IsCut b c second
    → Writes a c (first ++ (second ++ third)) result
failed_between Q a {b} {c} first {second} third result is done w =
    behind a b c first (second ++ third) result done (failed_front Q b third result is w)

-- a text behind two that were written
pub behind_two : {F : Type 0} (a : Given) {b c : Given} (d : Given) (first second third : List ℕ)
    (result : Result (Unit {0}) F) → Appends a b first → Appends b c second → Writes c d third result
    → Writes a d (first ++ (second ++ third)) result
behind_two a {b} {c} d first second third result one two w =
    behind a b d first (second ++ third) result one (behind b c d second third result two w)

-- a fault at one of the parts of a text that are written one after another
pub failed_part : {X F : Type 0} (Q : F → Type 0) (a b c : Given) (f : X → List ℕ) (ps : List X) {i : ℕ} (d : X)
    {bytes : List ℕ} (result : Result (Unit {0}) F) → IsErrAnd result Q → i < length ps → bytes ≡ f (get_or ps i d)
    → Appends a b (flat_map f (take i ps)) → IsCut b c bytes → Writes a c (flat_map f ps) result
failed_part Q a b c f ps d (Ok u) is lt at done w = absurd is
failed_part Q a b c f ps {i} d (Err e) is lt at done w =
    (_, _, cut_at f ps i d w.0 w.1 lt at w.2, longer w.1 _ w.3, Fails-trans a b c _ w.0 done w.4)
