-- A span holds the records of one list of groups.
use Rattle.pos_log.proofs.Common.{AllByRecursion, HoldsRecords, IsShort, List, [], ap, append-nil, append_assoc, arith}
use Rattle.pos_log.proofs.Common.{drop, drop-cons, drop_at, false, from_be_bytes, from_be_bytes-to_be_bytes_4, get_or}
use Rattle.pos_log.proofs.Common.{length, nat_eq, nat_tests, record_spelling, refl, spelling, suc, sym, take}
use Rattle.pos_log.proofs.Common.{take-append-drop, take_at, to_be_bytes, w32, ℕ, ◌++◌, ◌∙◌, ◌∷◌, ◌≡◌}

-- two records that begin one text are the same
pub same_head : (a b : List ℕ) {x y : List ℕ} → IsShort a → IsShort b → record_spelling a ++ x ≡ record_spelling b ++ y
    → (a ≡ b) × (x ≡ y)
same_head a b {x} {y} sa sb is =
    let lens : to_be_bytes w32 (length a) ≡ to_be_bytes w32 (length b) = ap (λ (l : List ℕ). take 4 (drop 1 l)) is in
    let long : length a ≡ length b = sym (from_be_bytes-to_be_bytes_4 (length a) sa) ∙ ap (from_be_bytes w32) lens
    ∙ from_be_bytes-to_be_bytes_4 (length b) sb in
    let rest : a ++ x ≡ b ++ y = ap (drop 5) is in (
      cc (take_at a x (length a) refl, take_at b y (length a) (sym long)),
      cc (drop_at a x (length a) refl, drop_at b y (length a) (sym long)),
    )

-- Records at the front of a text are among those that it holds up to a closed gate; the others follow.
abbrev pub Follow : List (List ℕ) → List (List ℕ) → List ℕ → List ℕ → Type 0
Follow groups all rest behind = (others : List (List ℕ)) × (all ≡ groups ++ others) × (rest ≡ spelling others ++ behind)
    × AllByRecursion IsShort others

pub others_follow : (groups all : List (List ℕ)) (rest : List ℕ) (gate : ℕ) (behind : List ℕ)
    → AllByRecursion IsShort groups → AllByRecursion IsShort all
    → spelling groups ++ rest ≡ spelling all ++ gate ∷ behind → nat_eq gate 165 ≡ false
    → Follow groups all rest (gate ∷ behind)
others_follow [] all rest gate behind short short_all is shut = (all, refl, is, short_all)
others_follow (group ∷ groups) [] rest gate behind short short_all is shut =
    absurd (grind (arith, nat_tests, ap (λ (l : List ℕ). get_or l 0 0) is))
others_follow (group ∷ groups) (one ∷ all) rest gate behind short short_all is shut =
    let apart = sym (append_assoc (record_spelling group) (spelling groups) rest) ∙ is
    ∙ append_assoc (record_spelling one) (spelling all) (gate ∷ behind) in
    let first = same_head group one short.0 short_all.0 apart in
    let more = others_follow groups all rest gate behind short.1 short_all.1 first.1 shut in
    (more.0, (λ i. sym first.0 i ∷ more.1 i), more.2, more.3)

-- a span is its records, the gate behind them, and what follows
pub span_split : (groups : List (List ℕ)) (span : List ℕ) → HoldsRecords groups span
    → span ≡ spelling groups ++ get_or span (length (spelling groups)) 0 ∷ drop (suc (length (spelling groups))) span
span_split groups span holds = grind (arith, take-append-drop, drop-cons)

none_follow : {groups all : List (List ℕ)} (others : List (List ℕ)) {gate : ℕ} {rest : List ℕ} (behind : List ℕ)
    → all ≡ groups ++ others → gate ∷ rest ≡ spelling others ++ behind → nat_eq gate 165 ≡ false → groups ≡ all
none_follow {groups} [] behind is text shut = sym (is ∙ append-nil groups)
none_follow (one ∷ others) behind is text shut =
    absurd (grind (arith, nat_tests, ap (λ (l : List ℕ). get_or l 0 0) text))

-- so it holds one list of records
pub one_log : (groups all : List (List ℕ)) (span : List ℕ) → HoldsRecords groups span → HoldsRecords all span
    → groups ≡ all
one_log groups all span holds also =
    let gate = get_or span (length (spelling groups)) 0 in
    let rest = drop (suc (length (spelling groups))) span in
    let follow = others_follow groups all (gate ∷ rest) (get_or span (length (spelling all)) 0)
    (drop (suc (length (spelling all))) span) holds.short also.short
    (sym (span_split groups span holds) ∙ span_split all span also) also.behind in
    none_follow follow.0 _ follow.1 follow.2 holds.behind
