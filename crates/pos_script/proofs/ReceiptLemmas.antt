-- What is printed, from its lines and cuts and its characters.
use Rattle.std.proofs.Common.{◌≡◌, ◌∷◌, ◌∙◌, ℕ, ◌+◌, ◌<◌, List, length, get_or, drop, ap}
use Rattle.std.proofs.lemmas.List.{drop_more}
use Rattle.pos_service.specs.declared.receipt_text.Mark.{Mark}
use Rattle.pos_service.specs.declared.receipt_text.PrintedCharacter.{PrintedCharacter}
use Rattle.pos_service.specs.Receipts.{items_from}
use Rattle.pos_script.specs.ReceiptText.{items_text}

-- what is printed from a mark on
abbrev pub text_from : List Mark → ℕ → List PrintedCharacter → List ℕ
text_from marks i characters = items_text (items_from (drop i marks) characters)

-- from a mark on: what the mark prints, and what is printed behind it
pub text_at : (marks : List Mark) {i : ℕ} (d : Mark) {mark : Mark} (characters : List PrintedCharacter)
    → i < length marks → get_or marks i d ≡ mark
    → text_from marks i characters ≡ items_text (items_from (mark ∷ drop (i + 1) marks) characters)
text_at marks {i} d characters lt is =
    ap (λ ms. items_text (items_from ms characters)) (drop_more marks i d lt ∙ ap (λ m. m ∷ drop (i + 1) marks) is)
