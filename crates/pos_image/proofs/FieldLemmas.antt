-- The fields of an image in a slot.
use Rattle.pos_image.proofs.Common.{HasFields, HasHead, Head, List, ap, arith, big_bytes, body_at, from_be_bytes}
use Rattle.pos_image.proofs.Common.{get_or-part, length, length_at, nat_eq, part, part-part, sequence_at, sym, w32, w64}
use Rattle.pos_image.proofs.Common.{ℕ, ◌++◌, ◌+◌, ◌<◌, ◌^◌, ◌∙◌, ◌≡◌, ◌≤◌}
use Rattle.std.proofs.lemmas.Nat.{from_be_bytes-to_be_bytes_4, from_be_bytes-to_be_bytes_8}

-- a head and a body behind the gate of a slot
pub fields : (bytes body : List ℕ) (at sequence : ℕ) → at + 13 ≤ length bytes → length body < 2 ^ 32 → sequence < 2 ^ 64
    → part (at + 1) 12 bytes ≡ big_bytes 8 sequence ++ big_bytes 4 (length body)
    → part (at + 13) (length body) bytes ≡ body → HasFields bytes at sequence body
unfolding sequence_at length_at body_at
fields bytes body at sequence fits short small head behind =
    let first = part-part (at + 1) 12 0 8 (at + 1) bytes (omega arith) (omega arith) (omega arith) in
    let second = part-part (at + 1) 12 8 4 (at + 9) bytes (omega arith) (omega arith) (omega arith) in
    let long : length_at bytes at ≡ length body =
    ap (from_be_bytes w32) (second ∙ ap (part 8 4) head) ∙ from_be_bytes-to_be_bytes_4 (length body) short in
    record {
      sequence_is = ap (from_be_bytes w64) (first ∙ ap (part 0 8) head) ∙ from_be_bytes-to_be_bytes_8 sequence small;
      length_is = long;
      body_is = ap (λ (m : ℕ). part (at + 13) m bytes) long ∙ behind;
    }

-- a head in the first bytes of a slot is the slot's
pub head_here : (bytes : List ℕ) (at : ℕ) (head : Head) → at + 13 ≤ length bytes → HasHead (part at 13 bytes) 0 head
    → HasHead bytes at head
unfolding sequence_at length_at
head_here bytes at head fits is = record {
  gate = ap (λ (b : ℕ). nat_eq b 165) (sym (get_or-part at 13 bytes 0 at (omega arith) (omega arith))) ∙ is.gate;
  sequence = ap (from_be_bytes w64) (part-part at 13 1 8 (at + 1) bytes (omega arith) (omega arith) fits) ∙ is.sequence;
  length = ap (from_be_bytes w32) (part-part at 13 9 4 (at + 9) bytes (omega arith) (omega arith) fits) ∙ is.length;
}
