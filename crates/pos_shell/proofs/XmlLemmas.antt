-- No piece of escaped bytes has markup but as an escape.
use Rattle.std.proofs.Common.{ap, append-nil, arith, false, get_or, length, nat_lt, refl, take, true, ◌%◌, ◌+◌, ◌++◌}
use Rattle.std.proofs.Common.{◌/◌, ◌<◌, ◌∙◌, ◌∷◌, ◌==◌, ◌≡◌, Bool, List, [], ℕ}
use Rattle.std.proofs.lemmas.Grind.{flat_map-append}
use Rattle.std.specs.Prelude.{◌||◌, flat_map, if◌then◌else◌}
use Rattle.std.specs.List.{list_all}
use Rattle.pos_shell.proofs.RunLemmas.{one_taken}
use Rattle.pos_shell.specs.Xml.{hex_byte, hex_digit, is_escape, is_harmless, is_markup, known_at, piece, pieces_from}

or_true : (one : Bool) {other : Bool} → other ≡ true → (one || other) ≡ true
or_true true is = refl
or_true false is = is

-- in either case
by_test : (test : Bool) (one other : List ℕ) → (test ≡ true → is_harmless one ≡ true)
    → (test ≡ false → is_harmless other ≡ true) → is_harmless (if test then one else other) ≡ true
by_test true one other first second = first refl
by_test false one other first second = second refl

plain : (byte : ℕ) → is_markup byte ≡ false → is_harmless (byte ∷ []) ≡ true
plain byte is = or_true (is_escape (byte ∷ [])) (rw is refl)

digit : (value : ℕ) → is_markup (hex_digit value) ≡ false
digit value = grind arith

in_hex : (byte : ℕ) → is_harmless (hex_byte byte) ≡ true
in_hex byte = or_true (is_escape (hex_byte byte)) (rw (digit (byte / 16), digit (byte % 16)) refl)

harmless : (is_known : Bool) (byte : ℕ) → is_harmless (piece is_known byte) ≡ true
harmless is_known byte = by_test (byte == 38) _ _ (λ _. refl)
    (λ one. by_test (byte == 60) _ _ (λ _. refl) (λ two. by_test (byte == 62) _ _ (λ _. refl) (λ _. by_test (byte == 34)
    _ _ (λ _. refl) (λ three. by_test (byte == 9) _ _ (λ _. refl) (λ _. by_test (byte == 10) _ _ (λ _. refl)
    (λ _. by_test (byte == 13) _ _ (λ _. refl) (λ _. by_test (nat_lt byte 32) _ _ (λ _. in_hex byte) (λ _.
    by_test (nat_lt byte 128 || is_known) _ _ (λ _. plain byte (rw (one, two, three) refl)) (λ _. in_hex byte)))))))))

pub all_harmless : (bytes : List ℕ) (known : ℕ) → list_all is_harmless (pieces_from known bytes) ≡ true
all_harmless [] known = refl
all_harmless (byte ∷ bytes) known = rw (harmless (nat_lt 0 (known_at known byte bytes)) byte) (all_harmless bytes _)

-- one more is at the end of what all are mapped to
pub mapped_more : {A B : Type 0} (f : A → List B) (xs : List A) {i : ℕ} {x : A} → i < length xs → x ≡ get_or xs i x
    → flat_map f (take (i + 1) xs) ≡ flat_map f (take i xs) ++ f x
mapped_more f xs {i} {x} lt is = ap (flat_map f) (one_taken xs i x lt is) ∙ flat_map-append f (take i xs) (x ∷ [])
    ∙ ap (λ ys. flat_map f (take i xs) ++ ys) (append-nil (f x))
