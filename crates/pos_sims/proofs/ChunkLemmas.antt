-- Laying character by character makes what the chunks of whole segments make.
use Rattle.pos_sims.proofs.Common.{Item, List, PrintedCharacter, Printout, SegmentCharacter, [], after_items}
use Rattle.pos_sims.proofs.Common.{append_assoc, arith, cases_order, characters_of, drop, drop-append-le, drop_at}
use Rattle.pos_sims.proofs.Common.{first_alignment, in_chunks, inl, inr, le-leb, length, length-map, length_push}
use Rattle.pos_sims.proofs.Common.{lt-leb, map_push, nat_tests, overflowed, put, refl, suc, take-append-le, take_at}
use Rattle.pos_sims.proofs.Common.{zero, ℕ, ◌++◌, ◌<◌, ◌∷◌, ◌≡◌, ◌≤◌}
use Rattle.pos_service.specs.declared.receipt_text.Alignment.{Alignment}
use Rattle.std.proofs.Common.{length-drop}

-- all fits into one chunk
pub fitting : (most : ℕ) {chars : ℕ} (segment : List SegmentCharacter) → length segment ≤ chars
    → in_chunks most chars segment ≡ record { items = []; buffer = characters_of segment }
fitting zero segment le = refl
fitting (suc most) segment le = rw le-leb

-- it does not
passing : (most : ℕ) {chars : ℕ} (segment : List SegmentCharacter) → chars < length segment → in_chunks (suc most) chars
    segment ≡ after_items (overflowed chars segment ∷ []) (in_chunks most chars (drop chars segment))
passing most segment lt = rw lt-leb

-- items before do not matter
pub put_behind : (chars : ℕ) (items : List Item) (a : Alignment) (c : PrintedCharacter) (made : Printout)
    → put chars a c (after_items items made) ≡ after_items items (put chars a c made)
put_behind chars items a c made = grind (arith, append_assoc)

first_pushed : (segment : List SegmentCharacter) (s : SegmentCharacter) → 0 < length segment
    → first_alignment (segment ++ s ∷ []) ≡ first_alignment segment
first_pushed segment s lt = grind arith

-- a chunk that has room
more_fits : (most : ℕ) {chars : ℕ} (segment : List SegmentCharacter) (s : SegmentCharacter) → length segment < chars
    → in_chunks (suc most) chars (segment ++ s ∷ []) ≡ put chars s.alignment s.character (in_chunks most chars segment)
more_fits most segment s lt = grind (arith, nat_tests, fitting, length_push, map_push, length-map)

-- a chunk that is full
more_ends : (most : ℕ) {chars : ℕ} (segment : List SegmentCharacter) (s : SegmentCharacter) → 0 < chars
    → length segment ≡ chars
    → in_chunks (suc most) chars (segment ++ s ∷ []) ≡ put chars s.alignment s.character (in_chunks most chars segment)
more_ends most segment s some e = grind (arith, nat_tests, fitting, passing, drop_at, take_at, length_push, length-map)

-- one more character behind a segment
pub chunked_more : (most chars : ℕ) (segment : List SegmentCharacter) (s : SegmentCharacter) → 0 < chars
    → length segment ≤ most
    → in_chunks (suc most) chars (segment ++ s ∷ []) ≡ put chars s.alignment s.character (in_chunks most chars segment)
chunked_more zero chars segment s some le = more_fits zero segment s (omega arith)
chunked_more (suc most) chars segment s some le = elim (cases_order (length segment) chars) [
  | inl e ↦ more_ends (suc most) segment s some e
  | inr (inl lt) ↦ more_fits (suc most) segment s lt
  | inr (inr gt) ↦
      let rest = drop chars segment in
      let more = chunked_more most chars rest s some (omega (arith, length-drop chars segment)) in
      grind (arith, passing, drop-append-le, take-append-le, first_pushed, put_behind, length_push, length-drop, more)
]

-- a segment that has begun has a last chunk that has begun
pub chunked_some : (most chars : ℕ) (segment : List SegmentCharacter) → 0 < length segment
    → 0 < length (in_chunks most chars segment).buffer
chunked_some zero chars segment lt = omega (arith, length-map segment (λ (x : SegmentCharacter). x.character))
chunked_some (suc most) chars segment lt = grind (
  arith,
  nat_tests,
  chunked_some most chars (drop chars segment),
  length-drop,
  length-map segment (λ (x : SegmentCharacter). x.character),
)
