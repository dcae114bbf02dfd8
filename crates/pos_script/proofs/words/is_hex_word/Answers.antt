use Rattle.std.proofs.Common.{◌≡◌, ◌∙◌, ℕ, ◌%◌, Bool, true, false, List, [], Some, sym, ap, cond, refl, length}
use Rattle.std.specs.Prelude.{Result, Ok, Err, is_some}
use Rattle.std.specs.List.{list_all}
use Rattle.std.proofs.lemmas.List.Sums.{AllPass-from_list_all, list_all-from_AllPass}
use Rattle.hex.specs.Hex.{decode_of, is_hex_digit}
use Rattle.hex.specs.declared.error.FromHexError.{FromHexError}
use Rattle.hex.proofs.HexLemmas.{decode_of-digits, decode_of-ok}
use Rattle.pos_script.specs.Arguments.{value_of}
use Rattle.pos_script.proofs.words.is_hex_word.Goals as goal

-- a test that holds exactly where a result is a success
decides : (test : Bool) (result : Result (List ℕ) FromHexError) → (test ≡ true → (bytes : List ℕ) × (result ≡ Ok bytes))
    → ((bytes : List ℕ) → result ≡ Ok bytes → test ≡ true) → test ≡ is_some (value_of result)
decides true result holds only = let (bytes, e) = holds refl in rw e refl
decides false (Ok bytes) holds only = only bytes refl
decides false (Err e) holds only = refl

-- a word of an even length writes bytes where it has hex digits alone
digits_decide : (word : List ℕ) → length word % 2 ≡ 0 → list_all is_hex_digit word ≡ is_some (value_of (decode_of word))
digits_decide word even =
    decides _ (decode_of word) (λ h. decode_of-digits word even (AllPass-from_list_all is_hex_digit word h))
    (λ bytes e. list_all-from_AllPass is_hex_digit word (decode_of-ok word bytes e).1)

pub returns-then-word-eq0 : goal.returns-then-word-eq0
returns-then-word-eq0 c = c.all_hex_digits.ensures ∙ digits_decide c.args.word.now c.if-word-eq0.true ∙ ap (λ hyphen.
    is_some (cond hyphen (Some []) (value_of (decode_of c.args.word.now)))) (sym (sym c.is.ensures ∙ c.if-is.false))
