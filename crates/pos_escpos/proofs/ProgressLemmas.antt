-- What a receipt has behind what was sent.
use Rattle.std.proofs.Common.{◌≡◌, ℕ, zero, suc, ◌+◌, List, [], ◌∷◌, ◌++◌, length, take, drop, refl, ap, sym, ◌∙◌, ◌≤◌}
use Rattle.std.proofs.Common.{arith, length-append, length-drop}
use Rattle.std.proofs.lemmas.List.{drop-drop, length-take}
use Rattle.pos_service.specs.declared.receipt_text.Mark.{Mark}
use Rattle.pos_service.specs.declared.receipt_text.Mark.TheVariants as mark
use Rattle.pos_service.specs.declared.receipt_text.PrintedCharacter.{PrintedCharacter}
use Rattle.pos_service.specs.Receipts.{Item, Line, CutAt, items_from}
use Rattle.pos_escpos.specs.declared.receipt_progress.SentReceipt.{SentReceipt}
use Rattle.pos_escpos.specs.ReceiptProgress.{Added, IsSent, line_characters}

-- to drop what was taken is to drop as many
drop_taken : (n : ℕ) (cs : List PrintedCharacter) → drop (length (take n cs)) cs ≡ drop n cs
drop_taken zero cs = refl
drop_taken (suc n) [] = refl
drop_taken (suc n) (c ∷ cs) = drop_taken n cs

-- the items behind those that were sent, in the two flat lists
pub items_behind : (marks : List Mark) (characters : List PrintedCharacter) (before : List Item) {added : List Item}
    → items_from marks characters ≡ before ++ added
    → items_from (drop (length before) marks) (drop (line_characters before) characters) ≡ added
items_behind marks characters [] is = is
items_behind [] characters (item ∷ before) is = let bad : ⊥ = cc in absurd bad
items_behind (mark.Line a n ∷ marks) characters (Line b line ∷ before) {added} is =
    let same : line ≡ take n characters = cc in
    let rest : items_from marks (drop n characters) ≡ before ++ added = cc in
    let dropped : drop (length line + line_characters before) characters ≡ drop (line_characters before)
    (drop n characters) = sym (drop-drop (line_characters before) (length line) characters)
    ∙ ap (drop (line_characters before)) (ap (λ l. drop (length l) characters) same ∙ drop_taken n characters) in
    ap (items_from (drop (length before) marks)) dropped ∙ items_behind marks (drop n characters) before rest
items_behind (mark.Line a n ∷ marks) characters (CutAt m ∷ before) is = let bad : ⊥ = cc in absurd bad
items_behind (mark.Cut n ∷ marks) characters (Line b line ∷ before) is = let bad : ⊥ = cc in absurd bad
items_behind (mark.Cut n ∷ marks) characters (CutAt m ∷ before) is = items_behind marks characters before cc

-- as many items as marks
pub as_many : (marks : List Mark) (characters : List PrintedCharacter)
    → length (items_from marks characters) ≡ length marks
as_many [] characters = refl
as_many (mark.Line a n ∷ marks) characters = ap suc (as_many marks (drop n characters))
as_many (mark.Cut n ∷ marks) characters = ap suc (as_many marks characters)

-- the characters of two lists of items
pub characters_behind : (before added : List Item)
    → line_characters (before ++ added) ≡ line_characters before + line_characters added
characters_behind [] added = omega arith
characters_behind (Line a line ∷ before) added = omega (arith, characters_behind before added)
characters_behind (CutAt n ∷ before) added = characters_behind before added

-- the lines have no more characters than there are
no_more : (marks : List Mark) (characters : List PrintedCharacter)
    → line_characters (items_from marks characters) ≤ length characters
no_more [] characters = omega arith
no_more (mark.Line a n ∷ marks) characters =
    omega (arith, no_more marks (drop n characters), length-take n characters, length-drop n characters)
no_more (mark.Cut n ∷ marks) characters = no_more marks characters

-- what was sent is within the two flat lists, and what was added is behind it
pub record Behind (marks : List Mark) (characters : List PrintedCharacter) (sent : SentReceipt)
    (added : List Item) : Type 0 where
  pub marks_within : sent.marks ≤ length marks
  pub characters_within : sent.characters ≤ length characters
  pub items : items_from (drop sent.marks marks) (drop sent.characters characters) ≡ added

pub behind : (marks : List Mark) (characters : List PrintedCharacter) {sent : SentReceipt} (added : List Item)
    → Added (items_from marks characters) sent added → Behind marks characters sent added
behind marks characters {sent} added h =
    let before = h.before in
    let many = ap length h.all in
    let chars = ap line_characters h.all in
    record {
      marks_within = omega (arith, many, as_many marks characters, length-append before added, h.counted.marks);
      characters_within = omega (
        arith,
        chars,
        no_more marks characters,
        characters_behind before added,
        h.counted.characters,
      );
      items = ap (λ k. items_from (drop k marks) (drop sent.characters characters)) h.counted.marks
          ∙ ap (λ k. items_from (drop (length before) marks) (drop k characters)) h.counted.characters
          ∙ items_behind marks characters before h.all;
    }

-- more was sent
pub sent_more : (before : List Item) (marks : List Mark) (characters : List PrintedCharacter) {sent next : SentReceipt}
    → IsSent before sent → next.marks ≡ sent.marks + length marks
    → next.characters ≡ sent.characters + line_characters (items_from marks characters)
    → IsSent (before ++ items_from marks characters) next
sent_more before marks characters h more_marks more_characters = record {
  marks = omega (
    arith,
    h.marks,
    more_marks,
    as_many marks characters,
    length-append before (items_from marks characters),
  );
  characters = omega (arith, h.characters, more_characters, characters_behind before (items_from marks characters));
}
