-- What stands behind the gate of a record, as it is laid out.
use Rattle.pos_log.proofs.Common.{List, [], append_assoc, arith, drop, length, length-append, slice_set, take, take_at}
use Rattle.pos_log.proofs.Common.{text_behind_gate, to_be_bytes, w32, ℕ, ◌++◌, ◌+◌, ◌<◌, ◌∷◌, ◌≡◌}

-- the text is so long
pub text_length : (group : List ℕ) → length (text_behind_gate group) ≡ 5 + length group
text_length group = let two = length-append group (0 ∷ []) in omega (arith, two)

-- length, group and a closed gate, piece by piece, in front of what was there
pub laid_out : {head body : List ℕ} (behind : List ℕ) {group : List ℕ} → head ≡ to_be_bytes w32 (length group)
    → body ≡ group → 0 < length behind
    → take (5 + length group) (head ++ (body ++ slice_set behind 0 0)) ≡ text_behind_gate group
laid_out [] head_is body_is some = absurd (omega (arith, some))
laid_out (first ∷ behind) {group} head_is body_is some = rw (head_is, body_is, ← (append_assoc group (0 ∷ []) behind))
    (take_at (text_behind_gate group) behind (5 + length group) (text_length group))

-- a slice that is put back whole
pub put_back : {len : ℕ} (new items : List ℕ) → len ≡ length items → length new ≡ length items
    → take len (new ++ drop (length new) items) ≡ new
put_back {len} new items len_is same = let long : length new ≡ len = omega (arith, len_is, same) in
    take_at new (drop (length new) items) len long
