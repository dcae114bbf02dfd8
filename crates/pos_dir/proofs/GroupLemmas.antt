-- A group that is read is the one that was spelled.
use Rattle.pos_dir.proofs.Common.{Change, IsChange, IsGroup, List, None, Some, [], ap, append_assoc, arith, change_at}
use Rattle.pos_dir.proofs.Common.{change_spelling, fields_at, group_at, group_spelling, is_end, leb-true, length}
use Rattle.pos_dir.proofs.Common.{nat_le, nat_tests, refl, subst, suc, text_spelling, to_be_bytes, true, w16, w32}
use Rattle.pos_dir.proofs.Common.{write_limit, ℕ, ◌++◌, ◌<◌, ◌^◌, ◌∙◌, ◌∷◌, ◌≡◌}
use Rattle.pos_dir.proofs.ItemLemmas.{counted_again, counted_take}
use Rattle.pos_dir.proofs.FieldLemmas.{IsBytes, IsReader, both_again, both_take, byte_reads, name_reads, passed}
use Rattle.pos_dir.proofs.FieldLemmas.{some_is, step, text_reads, u16_reads, u32_reads}
use Rattle.pos_dir.specs.declared.change.Change.TheVariants.{Create, Delete, Rename, SetAll, Write}
use Rattle.pos_dir.specs.ChangeTexts.{create_at, delete_at, rename_at, write_at, set_all_at}

-- what the fields behind a tag are, where they are read
abbrev IsFound : ℕ → List ℕ → Change → List ℕ → Type 0
IsFound tag bytes x rest = (tag ∷ bytes ≡ change_spelling x ++ rest) × IsChange x

-- ---- each change

create_takes : (bytes : List ℕ) (x : Change) (rest : List ℕ) → IsBytes bytes → create_at bytes ≡ Some (x, rest)
    → IsFound 1 bytes x rest
unfolding create_at
create_takes = both_take Create name_reads u32_reads (1 ∷ []) change_spelling IsChange (λ name size. refl)
    (λ name size good low. record { widths = low; flawless = rw good refl })

delete_takes : (bytes : List ℕ) (x : Change) (rest : List ℕ) → IsBytes bytes → delete_at bytes ≡ Some (x, rest)
    → IsFound 2 bytes x rest
unfolding delete_at
delete_takes bytes x rest fits e = step u16_reads fits e
    (λ index. subst (λ (y : Change × List ℕ). IsFound 2 bytes y.0 y.1) (some_is (Delete index.x, index.rest)
    (x, rest) index.on) (cc (index.parts), record { widths = index.fits; flawless = refl }))

rename_takes : (bytes : List ℕ) (x : Change) (rest : List ℕ) → IsBytes bytes → rename_at bytes ≡ Some (x, rest)
    → IsFound 3 bytes x rest
unfolding rename_at
rename_takes = both_take Rename u16_reads name_reads (3 ∷ []) change_spelling IsChange (λ index name. refl)
    (λ index name low good. record { widths = low; flawless = rw good refl })

write_takes : (bytes : List ℕ) (x : Change) (rest : List ℕ) → IsBytes bytes → write_at bytes ≡ Some (x, rest)
    → IsFound 4 bytes x rest
unfolding write_at
write_takes bytes x rest fits e = step u16_reads fits e
    (λ index. step u32_reads index.bytes_left index.on (λ offset. step text_reads offset.bytes_left offset.on (λ text.
    let g = passed text.on in
    let inner = append_assoc (to_be_bytes w32 offset.x) (text_spelling text.x) text.rest in
    let outer = append_assoc (to_be_bytes w16 index.x) (to_be_bytes w32 offset.x ++ text_spelling text.x) text.rest in
    subst (λ (y : Change × List ℕ). IsFound 4 bytes y.0 y.1) g.1 (
      cc (index.parts, offset.parts, text.parts),
      record { widths = (index.fits, offset.fits); flawless = rw (g.0) refl },
    ))))

set_all_takes : (bytes : List ℕ) (x : Change) (rest : List ℕ) → IsBytes bytes → set_all_at bytes ≡ Some (x, rest)
    → IsFound 5 bytes x rest
unfolding set_all_at
set_all_takes = both_take SetAll u16_reads byte_reads (5 ∷ []) change_spelling IsChange (λ index value. refl)
    (λ index value low byte. record { widths = (low, byte); flawless = refl })

-- ---- the fields behind a tag

fields_take : {tag : ℕ} (bytes : List ℕ) (x : Change) (rest : List ℕ) → IsBytes bytes
    → fields_at tag bytes ≡ Some (x, rest) → IsFound tag bytes x rest
unfolding fields_at
fields_take bytes x rest fits e = grind (
  arith,
  nat_tests,
  create_takes bytes x rest fits,
  delete_takes bytes x rest fits,
  rename_takes bytes x rest fits,
  write_takes bytes x rest fits,
  set_all_takes bytes x rest fits,
)

change_takes : (bytes : List ℕ) {x : Change} {rest : List ℕ} → IsBytes bytes → change_at bytes ≡ Some (x, rest)
    → (bytes ≡ change_spelling x ++ rest) × IsChange x
unfolding change_at
change_takes [] fits e = absurd cc
change_takes (tag ∷ bytes) {x} {rest} fits e = fields_take bytes x rest (λ i. fits (suc i)) e

-- ---- what is spelled is read

-- a Write, from its three fields
write_again : (index offset : ℕ) (text rest : List ℕ) → index < 2 ^ 16 → offset < 2 ^ 32
    → nat_le (length text) write_limit ≡ true
    → write_at ((to_be_bytes w16 index ++ (to_be_bytes w32 offset ++ text_spelling text)) ++ rest)
    ≡ Some (Write index offset text, rest)
unfolding write_at
write_again index offset text rest low_index low_offset short =
    let regrouped : (to_be_bytes w16 index ++ (to_be_bytes w32 offset ++ text_spelling text)) ++ rest
    ≡ to_be_bytes w16 index ++ (to_be_bytes w32 offset ++ (text_spelling text ++ rest)) = simp append_assoc in
    ap write_at regrouped ∙ rw (
      u16_reads.again index (to_be_bytes w32 offset ++ (text_spelling text ++ rest)) low_index,
      u32_reads.again offset (text_spelling text ++ rest) low_offset,
      text_reads.again text rest (omega (arith, leb-true (length text) write_limit short)),
      short,
    ) refl

change_again : (x : Change) (rest : List ℕ) → IsChange x → change_at (change_spelling x ++ rest) ≡ Some (x, rest)
unfolding change_at fields_at create_at delete_at rename_at set_all_at
change_again (Create name size) rest h =
    both_again Create name_reads u32_reads name size rest (grind (arith, nat_tests, h.flawless)) h.widths
change_again (Delete index) rest h = rw (u16_reads.again index rest h.widths) refl
change_again (Rename index name) rest h =
    both_again Rename u16_reads name_reads index name rest h.widths (grind (arith, nat_tests, h.flawless))
change_again (Write index offset text) rest h =
    write_again index offset text rest h.widths.0 h.widths.1 (grind (arith, nat_tests, h.flawless))
change_again (SetAll index value) rest h = both_again SetAll u16_reads byte_reads index value rest h.widths.0 h.widths.1

-- a change is read as it is spelled
pub change_reads : IsReader change_at change_spelling IsChange
change_reads = record { takes = change_takes; again = change_again }

-- ---- groups

-- What is read as a group is one, and is spelled so.
pub group_takes : (bytes : List ℕ) (changes : List Change) → IsBytes bytes → group_at bytes ≡ Some changes
    → IsGroup changes × (bytes ≡ group_spelling changes)
unfolding group_at
group_takes bytes changes fits e =
    let t = counted_take change_reads (λ x. is_end x.1) (λ x end. end) bytes changes fits e in
    (record { count = omega (arith, t.2); each = t.1 }, t.3)

-- What is spelled so is read.
pub group_again : (changes : List Change) → IsGroup changes → group_at (group_spelling changes) ≡ Some changes
unfolding group_at
group_again changes h = counted_again change_reads (λ x. is_end x.1) changes (omega (arith, h.count)) h.each refl

-- No two groups are spelled alike.
pub one_group_spelling : (changes others : List Change) → IsGroup changes → IsGroup others
    → group_spelling changes ≡ group_spelling others → changes ≡ others
one_group_spelling changes others h g same = cc (group_again changes h, ap group_at same, group_again others g)

-- what spells no group
pub no_group : (bytes : List ℕ) (changes : List Change) → group_at bytes ≡ None → IsGroup changes
    → bytes ≡ group_spelling changes → ⊥
no_group bytes changes none h same = cc (ap group_at same, group_again changes h)
