-- Items read one behind the other, and the loops that read them.
use Rattle.pos_dir.proofs.Common.{AllByRecursion, Bool, File, List, None, Option, Some, [], ap, append-nil}
use Rattle.pos_dir.proofs.Common.{append_assoc, arith, cond, end_within, flat_map, is_end, items_at, leb, length}
use Rattle.pos_dir.proofs.Common.{nat_tests, number_at, option_map, refl, subst, suc, sum_by-cons, to_be_bytes, true}
use Rattle.pos_dir.proofs.Common.{w16, zero, ℕ, ◌++◌, ◌+◌, ◌-◌, ◌<◌, ◌>>=◌, ◌^◌, ◌∙◌, ◌∷◌, ◌≡◌, ◌≤◌}
use Rattle.pos_dir.proofs.FieldLemmas.{IsBytes, IsReader, bind_some, passed, step, u16_reads}

-- an item before those that were read
abbrev pub with_first : {A : Type 0} → A → Option (List A × List ℕ) → Option (List A × List ℕ)
with_first first read = read >>= λ others. Some (first ∷ others.0, others.1)

-- items before those that were read
abbrev pub with_front : {A : Type 0} → List A → Option (List A × List ℕ) → Option (List A × List ℕ)
with_front front read = read >>= λ others. Some (front ++ others.0, others.1)

-- ---- what is read is what was spelled

module _ {A : Type 0} {read : List ℕ → Option (A × List ℕ)} {spell : A → List ℕ} {Fits : A → Type 0}
    (reads : IsReader read spell Fits) where
  -- items that were read are spelled so, one behind the other
  pub items_take : (count : ℕ) (bytes : List ℕ) (xs : List A) (rest : List ℕ) → IsBytes bytes
      → items_at read count bytes ≡ Some (xs, rest)
      → (bytes ≡ flat_map spell xs ++ rest) × (length xs ≡ count) × AllByRecursion Fits xs
  unfolding items_at
  items_take zero bytes xs rest fits e =
      let none : [] ≡ xs = grind arith in
      rw (← none) (grind arith, refl, tt)
  items_take (suc count) bytes xs rest fits e = step reads fits e (λ first.
      let (items, is_read, joined) = bind_some (items_at read count first.rest) first.on in
      let (others, left) = items in
      let (spelled, counted, fit) = items_take count first.rest others left first.bytes_left is_read in
      let all : first.x ∷ others ≡ xs = grind (arith, joined) in
      let behind : left ≡ rest = grind (arith, joined) in
      subst (λ (ys : List A). (bytes ≡ flat_map spell ys ++ rest) × (length ys ≡ suc count) × AllByRecursion Fits ys)
      all (
        cc (append_assoc (spell first.x) (flat_map spell others) left),
        ap suc counted,
        (first.fits, fit),
      ))

  -- items that are spelled one behind the other are read
  pub items_again : (xs : List A) (rest : List ℕ) → AllByRecursion Fits xs
      → items_at read (length xs) (flat_map spell xs ++ rest) ≡ Some (xs, rest)
  unfolding items_at
  items_again [] rest fits = refl
  items_again (x ∷ xs) rest fits =
      let regrouped : flat_map spell (x ∷ xs) ++ rest ≡ spell x ++ (flat_map spell xs ++ rest) =
      append_assoc (spell x) (flat_map spell xs) rest in
      ap (items_at read (suc (length xs))) regrouped
      ∙ rw (reads.again x (flat_map spell xs ++ rest) fits.0, items_again xs rest fits.1) refl

-- where no bytes are left over there are none
pub ended : (bytes : List ℕ) → is_end bytes ≡ true → bytes ≡ []
ended [] test = refl
ended (byte ∷ bytes) test = absurd cc

-- a count and as many items, which a test lets through
abbrev pub counted : {A : Type 0} → (List ℕ → Option (A × List ℕ)) → (List A × List ℕ → Bool) → List ℕ → Option (List A)
counted read keeps bytes = number_at w16 bytes >>= λ count. items_at read count.0 count.1 >>=
    λ x. cond (keeps x) (Some x.0) None

module _ {A : Type 0} {read : List ℕ → Option (A × List ℕ)} {spell : A → List ℕ} {Fits : A → Type 0}
    (reads : IsReader read spell Fits) (keeps : List A × List ℕ → Bool) where
  -- are spelled so, where the test wants no bytes behind them
  pub counted_take : ((x : List A × List ℕ) → keeps x ≡ true → is_end x.1 ≡ true) → (bytes : List ℕ) (xs : List A)
      → IsBytes bytes → counted read keeps bytes ≡ Some xs → (keeps (xs, []) ≡ true) × AllByRecursion Fits xs
      × (length xs < 2 ^ 16) × (bytes ≡ to_be_bytes w16 (length xs) ++ flat_map spell xs)
  counted_take ends bytes xs fits e = step u16_reads fits e (λ count.
      let (items, is_read, tested) = bind_some (items_at read count.x count.rest) count.on in
      let (found, left) = items in
      let (is_kept, same) = passed tested in
      let none = ended left (ends items is_kept) in
      let (spelled, counted, fit) = items_take reads count.x count.rest found left count.bytes_left is_read in
      rw (← same) (
        subst (λ (r : List ℕ). keeps (found, r) ≡ true) none is_kept,
        fit,
        omega (arith, count.fits, counted),
        cc (append-nil (flat_map spell found)),
      ))

  -- and what is spelled so is read
  pub counted_again : (xs : List A) → length xs < 2 ^ 16 → AllByRecursion Fits xs → keeps (xs, []) ≡ true
      → counted read keeps (to_be_bytes w16 (length xs) ++ flat_map spell xs) ≡ Some xs
  counted_again xs short fits kept =
      let all = rw append-nil at (items_again reads xs [] fits) in
      rw (u16_reads.again (length xs) (flat_map spell xs) short, all, kept) refl

-- as many items are read as were asked for
pub length_items : {A : Type 0} (read : List ℕ → Option (A × List ℕ)) (count : ℕ) (bytes : List ℕ) {x : List A × List ℕ}
    → items_at read count bytes ≡ Some x → length x.0 ≡ count
unfolding items_at
length_items read zero bytes e = grind arith
length_items read (suc count) bytes e = grind (arith, length_items read count)

-- one more item behind those that were read
pub items_push : {A : Type 0} (read : List ℕ → Option (A × List ℕ)) (count : ℕ) (bytes : List ℕ) {xs : List A}
    {rest : List ℕ} {x : A} {after : List ℕ} → items_at read count bytes ≡ Some (xs, rest) → read rest ≡ Some (x, after)
    → items_at read (suc count) bytes ≡ Some (xs ++ x ∷ [], after)
unfolding items_at
items_push read zero bytes e more = grind arith
items_push read (suc count) bytes e more = grind (arith, items_push read count)

-- where the bytes behind items are told, some items were read
pub some_read : {A : Type 0} (read : Option (List A × List ℕ)) (end : List ℕ) → Some end ≡ option_map (λ x. x.1) read
    → (items : List A) × (read ≡ Some (items, end))
some_read None end at = absurd cc
some_read (Some x) end at = (x.0, grind arith)

-- ---- a loop over a count

-- the next item is the first of those to come
pub items_next : {A : Type 0} (read : List ℕ → Option (A × List ℕ)) (count i : ℕ) (bytes : List ℕ) → i < count
    → items_at read
    (count - i) bytes ≡ (read bytes >>= λ first. with_first first.0 (items_at read (count - (i + 1)) first.1))
unfolding items_at
items_next read count i bytes lt =
    let k : count - i ≡ suc (count - (i + 1)) = omega arith in
    rw k refl

-- at the count nothing is to come
pub no_more : {A : Type 0} (read : List ℕ → Option (A × List ℕ)) (count i : ℕ) (bytes : List ℕ) → count ≤ i
    → items_at read (count - i) bytes ≡ Some ([], bytes)
unfolding items_at
no_more read count i bytes le =
    let k : count - i ≡ 0 = omega arith in
    rw k refl

-- an item that was read first is the last of those in front
pub front_first : {A : Type 0} (front : List A) (x : A) (read : Option (List A × List ℕ))
    → with_front front (with_first x read) ≡ with_front (front ++ x ∷ []) read
front_first front x None = refl
front_first {A} front x (Some others) = ap (λ (xs : List A). Some (xs, others.1)) (simp append_assoc)

-- a file takes room from those behind it
pub end_first : (room : ℕ) (file : File) (read : Option (List File × List ℕ)) → end_within room
    (with_first file read) ≡ cond (leb (length file.bytes) room) (end_within (room - length file.bytes) read) None
end_first room file None = grind (arith, nat_tests)
end_first room file (Some x) = grind (arith, nat_tests, sum_by-cons (λ (f : File). length f.bytes) file x.0)

-- what the loops over a count go by
pub ruleset counting = (items_next, no_more, length_items, end_first, nat_tests)

pub ruleset collecting = (items_next, no_more, front_first, append-nil)
