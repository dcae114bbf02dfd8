-- Pieces of bytes from the front on.
use Rattle.std.proofs.Common.{◌≡◌, ◌++◌, ◌∷◌, ℕ, suc, zero, ◌+◌, ◌<◌, List, [], Bool, true, take, drop, get_or, length}
use Rattle.std.proofs.Common.{replicate, refl, arith}
use Rattle.std.specs.List.{list_all, prefix_len}
use Rattle.std.proofs.lemmas.List.{drop_more}
use Rattle.pos_service.specs.Receipts.{starts_with, is_upper, is_inner, is_in_range, sequence_pieces, pieces}
use Rattle.pos_service.specs.Receipts.{pieces_past}
use Rattle.pos_service.specs.declared.receipt_text.Piece.TheVariants as piece

-- the bytes that belong to what began before them are passed over
pub past : (n : ℕ) (bs : List ℕ) → pieces_past n bs ≡ pieces (drop n bs)
past zero bs = grind arith
past (suc n) [] = refl
past (suc n) (b ∷ bs) = past n bs

-- a test of the first byte from a place on
pub begins_at : (test : ℕ → Bool) (bs : List ℕ) (i : ℕ) → i < length bs
    → starts_with test (drop i bs) ≡ test (get_or bs i 0)
begins_at test bs i lt = rw (drop_more bs i 0 lt)

-- an escape sequence behind ESC |
at_prefix : (bs : List ℕ) → starts_with is_upper (drop (prefix_len is_inner bs) bs) ≡ true → pieces (27 ∷ 124 ∷ bs)
    ≡ sequence_pieces (take (prefix_len is_inner bs + 1) bs) ++ pieces (drop (prefix_len is_inner bs + 1) bs)
at_prefix bs h =
    let k = prefix_len is_inner bs in
    let e : k + 2 ≡ suc (k + 1) = omega arith in
    rw (h, past (k + 2) (124 ∷ bs), e)

pub at_sequence : (bs : List ℕ) (k : ℕ) → k ≡ prefix_len is_inner bs → starts_with is_upper (drop k bs) ≡ true
    → pieces (27 ∷ 124 ∷ bs) ≡ sequence_pieces (take (k + 1) bs) ++ pieces (drop (k + 1) bs)
at_sequence bs k e h = rw e (at_prefix bs (rw (← e) h))

pub all_line_ends : (n : ℕ) → list_all is_in_range (replicate n piece.LineEnd) ≡ true
all_line_ends zero = refl
all_line_ends (suc n) = all_line_ends n
