-- What a crash leaves, by the files that the totals have.
use Rattle.pos_counter.proofs.Common.{Arrangement, Bool, File, IsSettled, Layout, List, Mode, None, Option, Standing}
use Rattle.pos_counter.proofs.Common.{TotalsChange, TotalsPart, [], after_arrangement, ap₂, arith, cond_both}
use Rattle.pos_counter.proofs.Common.{is_own_claim, left_after, plain, refl, rules, settled, store_settled, stored}
use Rattle.pos_counter.proofs.Common.{with_claim, with_each, with_files, without_control, ℕ, ◌∷◌, ◌≡◌}

-- what is settled is so once
pub settled_twice : (layout : Layout) (left : List Standing) (mode : Mode)
    → settled layout mode left ≡ settled layout mode (settled layout mode left)
settled_twice layout left mode = grind arith

-- what is settled otherwise is settled
pub settles : (layout : Layout) (mode : Mode) {left : List Standing} (was : List Standing)
    → left ≡ settled layout mode was → left ≡ settled layout mode left
settles layout mode was is = grind arith

-- what a crash leaves is said of the files that the totals have
pub kept_left : (changes : List TotalsChange) (old : TotalsPart) → IsSettled old.totals old.left
    → left_after old changes old.totals.mode ≡ old.left
kept_left changes old is = search rules

-- files with other claims are the same files
plain_claimed : (test : File → Bool) (claim : Option ℕ) (files : List File)
    → plain (with_each test (with_claim claim) files) ≡ plain files
plain_claimed test claim [] = refl
plain_claimed test claim (file ∷ files) = search (rules, cond_both, (plain_claimed test claim files))

-- and are stored as they were
stored_claimed : (test : File → Bool) (claim : Option ℕ) (mode : Mode)
    → stored (with_files (with_each test (with_claim claim)) mode) ≡ stored mode
stored_claimed test claim mode = grind (arith, plain_claimed)

-- The layout and the files are what they were, handles and claims aside.
pub record Rest (old new : TotalsPart) : Type 0 where
  pub layout : new.totals.layout ≡ old.totals.layout
  pub mode : stored new.totals.mode ≡ stored old.totals.mode
  pub left : new.left ≡ old.left

pub same_rest : (totals : TotalsPart) → Rest totals totals
same_rest totals = record { layout = refl; mode = refl; left = refl }

-- so a crash leaves what it left
pub rest_settled : {old new : TotalsPart} → Rest old new → (left : List Standing)
    → settled new.totals.layout new.totals.mode left ≡ settled old.totals.layout old.totals.mode left
rest_settled rests left = ap₂ (λ layout state. store_settled layout state left) rests.layout rests.mode

-- an arrangement leaves the files, and so does the end of what a control has
pub arranged_rest : (old : TotalsPart) (n : ℕ) (arrangement : Arrangement)
    → Rest old (record old { totals = after_arrangement old.totals n arrangement })
arranged_rest old n arrangement = grind (arith, stored_claimed)

pub without_rest : (old : TotalsPart) (n : ℕ) → Rest old (record old { totals = without_control old.totals n })
without_rest old n = record { layout = refl; mode = stored_claimed (is_own_claim n) None old.totals.mode; left = refl }
