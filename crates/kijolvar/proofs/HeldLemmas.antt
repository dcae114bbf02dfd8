-- How a text falls into its first line and the others, and lines behind others.
use Rattle.std.proofs.Common.{All, List, Vec, [], ap, append-nil, arith, drop, get_or, length, length-drop, refl}
use Rattle.std.proofs.Common.{sym, take, true, ℕ, ◌+◌, ◌-◌, ◌++◌, ◌<◌, ◌∙◌, ◌∷◌, ◌≡◌}
use Rattle.std.proofs.lemmas.List.{append_assoc, drop_all, take-append-drop, take_all, take_more}
use Rattle.std.proofs.lemmas.List.Elements.{All-append, All-nil, All-push, All-tail}
use Rattle.pos_script.specs.LineBuffers.{have_no_feed}
use Rattle.pos_script.specs.Lines.{lines_of, pieces, without_cr}
use Rattle.pos_script.proofs.LineLemmas.{ends_lines, ends_rest, go_on_lines, go_on_rest, one_piece, two_parts}
use Rattle.kijolvar.specs.HeldLines.{SplitsOff, behind_first}
use Rattle.pos_run.specs.WaitingLines.{IsOneLine, lines_in}

-- a line with its line feed, and a text behind it
feed_alone : (front : List ℕ) → have_no_feed front ≡ true → lines_of (front ++ 10 ∷ []) ≡ without_cr front ∷ []
feed_alone front free = two_parts (pieces 10 (front ++ 10 ∷ []))
    ∙ rw (ends_lines [] front free, ends_rest [] front free) refl

feed_splits : (front more : List ℕ) → have_no_feed front ≡ true
    → lines_of ((front ++ 10 ∷ []) ++ more) ≡ without_cr front ∷ lines_of more
feed_splits front more free =
    let line : List ℕ = front ++ 10 ∷ [] in
    let whole = go_on_lines (front ++ 10 ∷ []) more in
    let rest = go_on_rest (front ++ 10 ∷ []) more in
    two_parts (pieces 10 ((front ++ 10 ∷ []) ++ more)) ∙ rw (
      whole,
      rest,
      ends_lines [] front free,
      ends_rest [] front free,
    ) (ap (λ x. without_cr front ∷ x) (sym (two_parts (pieces 10 more))))

-- a line without a line feed
end_alone : (text : List ℕ) → have_no_feed text ≡ true → 0 < length text → lines_of text ≡ text ∷ []
end_alone [] free some = absurd (omega (arith, some))
end_alone (b ∷ bs) free some = rw (one_piece (b ∷ bs) free) refl

-- the first line of a text is split off at its line feed
pub splits_at_feed : {text : List ℕ} {count : ℕ} → count < length text → have_no_feed (take count text) ≡ true
    → get_or text count 0 ≡ 10 → SplitsOff text (count + 1)
splits_at_feed {text} {count} within free feed =
    let front : take (count + 1) text ≡ take count text ++ 10 ∷ [] =
    take_more text count 0 within ∙ ap (λ b. take count text ++ b ∷ []) feed in
    record {
      line = without_cr (take count text);
      one = ap lines_of front ∙ feed_alone (take count text) free;
      lines = ap lines_of (sym (take-append-drop (count + 1) text))
          ∙ ap (λ x. lines_of (x ++ drop (count + 1) text)) front
          ∙ feed_splits (take count text) (drop (count + 1) text) free;
    }

-- or it is the last
pub splits_at_end : {text : List ℕ} → have_no_feed text ≡ true → 0 < length text → SplitsOff text (length text)
splits_at_end {text} free some = record {
  line = text;
  one = rw (take_all (length text) text (omega arith)) (end_alone text free some);
  lines = rw (drop_all (length text) text (omega arith)) (end_alone text free some);
}

-- one more line is split off
lines_push : {A : Type 0} (texts : List (Vec ℕ A)) (text : Vec ℕ A)
    → lines_in (texts ++ text ∷ []) ≡ lines_in texts ++ lines_of text.items
lines_push [] text = append-nil (lines_of text.items)
lines_push (t ∷ ts) text = ap (λ x. lines_of t.items ++ x) (lines_push ts text)
    ∙ sym (append_assoc (lines_of t.items) (lines_in ts) (lines_of text.items))

pub one_more : {A : Type 0} (texts : List (Vec ℕ A)) (text : Vec ℕ A) (rest : List ℕ) (count : ℕ)
    {whole : List (List ℕ)} → text.items ≡ take count rest → SplitsOff rest count
    → whole ≡ lines_in texts ++ lines_of rest → whole ≡ lines_in (texts ++ text ∷ []) ++ lines_of (drop count rest)
one_more texts text rest count is splits same =
    let one : lines_of text.items ≡ splits.line ∷ [] = ap lines_of is ∙ splits.one in
    same ∙ ap (λ x. lines_in texts ++ x) splits.lines ∙ sym (append_assoc (lines_in texts) (splits.line ∷ [])
    (lines_of (drop count rest))) ∙ ap (λ x. (lines_in texts ++ x) ++ lines_of (drop count rest)) (sym one) ∙ ap
    (λ x. x ++ lines_of (drop count rest)) (sym (lines_push texts text))

pub each_more : {A : Type 0} (texts : List (Vec ℕ A)) (text : Vec ℕ A) {rest : List ℕ} {count : ℕ}
    → text.items ≡ take count rest → SplitsOff rest count → All IsOneLine texts → All IsOneLine (texts ++ text ∷ [])
each_more texts text is splits each = All-push IsOneLine texts text each (splits.line, ap lines_of is ∙ splits.one)

-- lines behind the first of others, each of which is one line
lines_append : {A : Type 0} (these those : List (Vec ℕ A))
    → lines_in (these ++ those) ≡ lines_in these ++ lines_in those
lines_append [] those = refl
lines_append (t ∷ ts) those = ap (λ x. lines_of t.items ++ x) (lines_append ts those)
    ∙ sym (append_assoc (lines_of t.items) (lines_in ts) (lines_in those))

pub lines_behind : {A : Type 0} (these those : List (Vec ℕ A)) → All IsOneLine those
    → lines_in (behind_first these those) ≡ behind_first (lines_in these) (lines_in those)
lines_behind these [] each = refl
lines_behind these (first ∷ those) each =
    let (line, one) : IsOneLine first = each 0 first (omega arith) in
    rw (one, lines_append these those) refl

one_each : {A : Type 0} (first : Vec ℕ A) → IsOneLine first → All IsOneLine (first ∷ [])
one_each first is = All-push IsOneLine [] first (All-nil IsOneLine) is

pub each_behind : {A : Type 0} (these those : List (Vec ℕ A)) → All IsOneLine these → All IsOneLine those
    → All IsOneLine (behind_first these those)
each_behind these [] each others = each
each_behind these (first ∷ those) each others =
    All-append IsOneLine (first ∷ []) (these ++ those) (one_each first (others 0 first (omega arith)))
    (All-append IsOneLine these those each (All-tail IsOneLine first those others))

-- a slice up to its end
pub to_end : (rest : List ℕ) (count : ℕ) → take (length rest - count) (drop count rest) ≡ drop count rest
to_end rest count = take_all (length rest - count) (drop count rest) (grind (arith, length-drop))
