-- How a printer obeys what is sent to it.
use Rattle.std.proofs.Common.{◌≡◌, ℕ, ◌+◌, ◌<◌, ◌≤◌, Bool, true, false, List, [], ◌∷◌, ◌++◌, length, refl, ap, sym, ◌∙◌}
use Rattle.std.proofs.Common.{append_assoc, length-append, arith, cond, subst, Some, ◌==◌, ◌&&◌, nat_le}
use Rattle.std.proofs.lemmas.Bool.{ne_eqb, le-leb, and_parts, leb-true}
use Rattle.std.proofs.lemmas.List.{append-nil}
use Rattle.std.proofs.lemmas.List.Concat.{flat_map-cons}
use Rattle.std.proofs.lemmas.List.Sums.{fold-append}
use Rattle.std.specs.List.{fold, list_all}
use Rattle.pos_service.specs.declared.receipt_text.Alignment.{Alignment}
use Rattle.pos_service.specs.declared.receipt_text.Alignment.TheVariants as alignment
use Rattle.pos_service.specs.declared.receipt_text.PrintedCharacter.{PrintedCharacter}
use Rattle.pos_service.specs.Receipts.{Item, Line, CutAt}
use Rattle.pos_escpos.specs.declared.settings.Cutter.{Cutter}
use Rattle.pos_escpos.specs.declared.settings.Cutter.TheVariants as cutter
use Rattle.pos_escpos.specs.declared.settings.CutSettings.{CutSettings}
use Rattle.pos_escpos.specs.Printers.{OnPaper, PrintedLine, CutThrough, Press, IsReady, PrintsOnly, press_after}
use Rattle.pos_escpos.specs.Printers.{questioned, takes}
use Rattle.pos_escpos.specs.PrinterBytes.{all_fit, all_on_paper, alignment_number_of, bold_bytes, cut_bytes}
use Rattle.pos_escpos.specs.PrinterBytes.{cut_on_paper, is_character, item_bytes, item_fits, items_bytes, line_bytes}
use Rattle.pos_escpos.specs.PrinterBytes.{on_paper, run_bytes}

-- a printer at work on a line
abbrev pub at_line : Press → List OnPaper → List PrintedCharacter → Alignment → Bool → Press
at_line press paper line alignment is_bold =
    record press { paper = paper; line = line; alignment = alignment; is_bold = is_bold; begun = [] }

-- a character within the line is put into the line buffer
takes_character : (width b : ℕ) (press : Press) (paper : List OnPaper) (line : List PrintedCharacter) (a : Alignment)
    (bold : Bool) → 32 ≤ b → length line < width → takes width (at_line press paper line a bold) b
    ≡ at_line press paper (line ++ record { byte = b; is_bold = bold } ∷ []) a bold
takes_character width b press paper line a bold le room = rw (
  ne_eqb b 27 (λ e. omega arith),
  ne_eqb b 29 (λ e. omega arith),
  ne_eqb b 16 (λ e. omega arith),
  ne_eqb b 10 (λ e. omega arith),
  le-leb 32 b le,
  ne_eqb (length line) width (λ e. omega arith),
) refl

-- where bold changes, it is changed
takes_bold : (width : ℕ) (press : Press) (paper : List OnPaper) (line : List PrintedCharacter) (a : Alignment)
    (was now : Bool)
    → press_after width (at_line press paper line a was) (bold_bytes was now) ≡ at_line press paper line a now
takes_bold width press paper line a true true = refl
takes_bold width press paper line a true false = refl
takes_bold width press paper line a false true = refl
takes_bold width press paper line a false false = refl

-- the characters of a line are in the line buffer then, and bold is off
takes_run : (width : ℕ) (press : Press) (paper : List OnPaper) (line : List PrintedCharacter) (a : Alignment)
    (was : Bool) (cs : List PrintedCharacter) → list_all is_character cs ≡ true → length line + length cs ≤ width
    → press_after width (at_line press paper line a was) (run_bytes was cs) ≡ at_line press paper (line ++ cs) a false
takes_run width press paper line a was [] fit room =
    takes_bold width press paper line a was false ∙ ap (λ l. at_line press paper l a false) (sym (append-nil line))
takes_run width press paper line a was (c ∷ cs) fit room =
    let parts = and_parts (is_character c) (list_all is_character cs) fit in
    let bounds = and_parts (nat_le 32 c.byte) (nat_le c.byte 126) parts.0 in
    fold-append (takes width) (at_line press paper line a was) (bold_bytes was c.is_bold)
    (c.byte ∷ run_bytes c.is_bold cs) ∙ ap (λ p. fold (takes width) p (c.byte ∷ run_bytes c.is_bold cs))
    (takes_bold width press paper line a was c.is_bold) ∙ ap (λ p. fold (takes width) p (run_bytes c.is_bold cs))
    (takes_character width c.byte press paper line a c.is_bold (leb-true 32 c.byte bounds.0) (omega arith)) ∙ takes_run
    width press paper (line ++ c ∷ []) a c.is_bold cs parts.1 (simp length-append (omega arith)) ∙ ap
    (λ l. at_line press paper l a false) (append_assoc line (c ∷ []) cs)

-- the alignment is set at the beginning of the line
takes_alignment : (width : ℕ) (press : Press) (paper : List OnPaper) (before a : Alignment) → press_after width
    (at_line press paper [] before false) (27 ∷ 97 ∷ alignment_number_of a ∷ []) ≡ at_line press paper [] a false
takes_alignment width press paper before alignment.Left = refl
takes_alignment width press paper before alignment.Center = refl
takes_alignment width press paper before alignment.Right = refl

-- a line is on the paper then
takes_line : (width : ℕ) (press : Press) (paper : List OnPaper) (before a : Alignment) (cs : List PrintedCharacter)
    → list_all is_character cs ≡ true → length cs ≤ width → press_after width (at_line press paper [] before false)
    (line_bytes a cs) ≡ at_line press (paper ++ PrintedLine a cs ∷ []) [] a false
takes_line width press paper before a cs fit room = fold-append (takes width) (at_line press paper [] before false)
    (27 ∷ 97 ∷ alignment_number_of a ∷ []) (run_bytes false cs ++ 10 ∷ [])
    ∙ ap (λ p. fold (takes width) p (run_bytes false cs ++ 10 ∷ [])) (takes_alignment width press paper before a)
    ∙ fold-append (takes width) (at_line press paper [] a false) (run_bytes false cs) (10 ∷ [])
    ∙ ap (λ p. takes width p 10) (takes_run width press paper [] a false cs fit (omega arith))

-- a cut is on the paper then
takes_cut : (width : ℕ) (press : Press) (paper : List OnPaper) (a : Alignment) (way : Cutter) (feed n : ℕ)
    → press_after width (at_line press paper [] a false) (cut_bytes way feed n) ≡ at_line press
    (paper ++ cut_on_paper way feed n ∷ []) [] a false
takes_cut width press paper a cutter.Both feed n = elim (n == 100) as
    (λ full. press_after width (at_line press paper [] a false) (29 ∷ 86 ∷ cond full 65 66 ∷ feed ∷ [])
    ≡ at_line press (paper ++ CutThrough full (Some feed) ∷ []) [] a false) [ true ↦ refl | false ↦ refl ]
takes_cut width press paper a cutter.Full feed n = refl
takes_cut width press paper a cutter.Partial feed n = refl
takes_cut width press paper a cutter.Absent feed n = refl

-- the alignment in force after an item
alignment_after : Alignment → Item → Alignment
alignment_after now (Line a cs) = a
alignment_after now (CutAt n) = now

-- an item is on the paper then
takes_item : (width : ℕ) {columns : ℕ} (press : Press) (paper : List OnPaper) (now : Alignment) (cut : CutSettings)
    (item : Item) → columns ≤ width → item_fits columns item ≡ true
    → press_after width (at_line press paper [] now false) (item_bytes cut item) ≡ at_line press
    (paper ++ on_paper cut item ∷ []) [] (alignment_after now item) false
unfolding alignment_after
takes_item width {columns} press paper now cut (Line a cs) within fit =
    let parts = and_parts (nat_le (length cs) columns) (list_all is_character cs) fit in
    let most = leb-true (length cs) columns parts.0 in
    takes_line width press paper now a cs parts.1 (omega arith)
takes_item width press paper now cut (CutAt n) within fit = takes_cut width press paper now cut.cutter cut.feed n

-- the alignment in force after items
alignment_at_end : Alignment → List Item → Alignment
alignment_at_end now [] = now
alignment_at_end now (item ∷ items) = alignment_at_end (alignment_after now item) items

-- all items are on the paper then
takes_items : {width columns : ℕ} (press : Press) (paper : List OnPaper) (now : Alignment) (cut : CutSettings)
    (items : List Item) → columns ≤ width → all_fit columns items ≡ true
    → press_after width (at_line press paper [] now false) (items_bytes cut items) ≡ at_line press
    (paper ++ all_on_paper cut items) [] (alignment_at_end now items) false
unfolding alignment_at_end
takes_items press paper now cut [] within fit = ap (λ p. at_line press p [] now false) (sym (append-nil paper))
takes_items {width} {columns} press paper now cut (item ∷ items) within fit =
    let parts = and_parts (item_fits columns item) (all_fit columns items) fit in
    ap (press_after width (at_line press paper [] now false)) (flat_map-cons (item_bytes cut) item items) ∙ fold-append
    (takes width) (at_line press paper [] now false) (item_bytes cut item) (items_bytes cut items) ∙ ap
    (λ p. fold (takes width) p (items_bytes cut items)) (takes_item width press paper now cut item within parts.0)
    ∙ takes_items press (paper ++ on_paper cut item ∷ []) (alignment_after now item) cut items within parts.1 ∙ ap
    (λ p. at_line press p [] (alignment_at_end (alignment_after now item) items) false)
    (append_assoc paper (on_paper cut item ∷ []) (all_on_paper cut items))

-- a ready printer is at the beginning of a line
pub at_start : (press : Press) → IsReady press → press ≡ at_line press press.paper [] press.alignment false
at_start press ready = ap (λ begun. record press { begun = begun }) ready.whole
    ∙ ap (λ bold. record press { is_bold = bold; begun = [] }) ready.not_bold
    ∙ ap (λ line. record press { line = line; is_bold = false; begun = [] }) ready.line

-- from a ready printer all items are printed, and nothing else is done
pub prints_items : (width : ℕ) {columns : ℕ} (cut : CutSettings) (items : List Item) → columns ≤ width
    → all_fit columns items ≡ true → (press : Press) → IsReady press
    → PrintsOnly press (all_on_paper cut items) (press_after width press (items_bytes cut items))
prints_items width cut items within fit press ready =
    let is = ap (λ p. press_after width p (items_bytes cut items)) (at_start press ready)
    ∙ takes_items press press.paper press.alignment cut items within fit in
    subst (λ (p : Press). PrintsOnly press (all_on_paper cut items) p) (sym is) (record {
      paper = refl;
      ready = record { line = refl; not_bold = refl; whole = refl };
      pulses = refl;
      asked = refl;
      unknown = refl;
    })

-- a character of a job's number is one
job_character : (x : ℕ) → x < 16 → (nat_le 32 (64 + x) && nat_le (64 + x) 126) ≡ true
job_character x less = rw (le-leb 32 (64 + x) (omega arith), le-leb (64 + x) 126 (omega arith)) refl

-- GS ( H asks for a job's end
pub takes_job_end : (width a b c d : ℕ) (press : Press) → a < 16 → b < 16 → c < 16 → d < 16 → press.begun ≡ []
    → press_after width press (29 ∷ 40 ∷ 72 ∷ 6 ∷ 0 ∷ 48 ∷ 48 ∷ (64 + a) ∷ (64 + b) ∷ (64 + c) ∷ (64 + d) ∷ [])
    ≡ questioned (29 ∷ 40 ∷ 72 ∷ 6 ∷ 0 ∷ 48 ∷ 48 ∷ (64 + a) ∷ (64 + b) ∷ (64 + c) ∷ (64 + d) ∷ []) press
takes_job_end width a b c d press first second third fourth whole =
    let bytes = 29 ∷ 40 ∷ 72 ∷ 6 ∷ 0 ∷ 48 ∷ 48 ∷ (64 + a) ∷ (64 + b) ∷ (64 + c) ∷ (64 + d) ∷ [] in
    let same : press ≡ record press { begun = [] } = ap (λ begun. record press { begun = begun }) whole in
    let asked : press_after width (record press { begun = [] }) bytes ≡ questioned bytes (record press { begun = [] }) =
    rw (job_character a first, job_character b second, job_character c third, job_character d fourth) refl in
    ap (λ p. press_after width p bytes) same ∙ asked ∙ ap (questioned bytes) (sym same)
