-- What was read of a document is sound.
use Rattle.pos_profile.proofs.Common.{All, AreOrders, Bool, Category, Data, Entry, IfSome, IsInItsRange, IsInRange}
use Rattle.pos_profile.proofs.Common.{IsNamedFor, IsSoundEntry, List, Members, None, Numbers, OfEntry, Option, Role}
use Rattle.pos_profile.proofs.Common.{Some, Variation, [], allowed, arith, as_table, category_for, cond, differs_by}
use Rattle.pos_profile.proofs.Common.{entry_of, entry_with, failing_in, false, flaky_in, flaky_of, has_only, is_key}
use Rattle.pos_profile.proofs.Common.{is_some, kind_of, map, name_for, number_in, number_of, number_within, numbers_of}
use Rattle.pos_profile.proofs.Common.{option_and_then, table_entry, true, truth_of, variation_of, ℕ, ℤ, ◌∷◌, ◌≡◌, ◌≤◌}
use Rattle.pos_profile.specs.Numbers.{has_number}
use Rattle.pos_profile.specs.OptionalKeys.{has_option}
use Rattle.pos_profile.specs.declared.number.NumberKey.{NumberKey}
use Rattle.pos_profile.specs.declared.optional.OptionalKey.{OptionalKey}
use Rattle.pos_profile.specs.declared.optional.OptionalKey.TheVariants.{Flaky}
use Rattle.std.proofs.lemmas.Bool.Decides.{nat_tests}
use Rattle.std.proofs.lemmas.List.Elements.{All-cons, All-nil}

-- what holds of a value makes what is read of it hold
then_read : {A B : Type 0} (P : B → Type 0) (Q : A → Type 0) (f : A → Option B) (o : Option A) → IfSome o Q
    → ((x : A) → Q x → IfSome (f x) P) → IfSome (option_and_then f o) P
then_read P Q f None read then = tt
then_read P Q f (Some x) read then = then x read

-- a number that is found is within the range
within : (least most : ℕ) (given : ℤ)
    → IfSome (number_within least most given) (λ number. (least ≤ number) × (number ≤ most))
within least most given = grind (arith, nat_tests)

-- a number that a category doesn't have is 0
number_sound : (category : Category) (table : Members) (key : NumberKey)
    → IfSome (number_of category table key) (IsInItsRange key (has_number category key))
number_sound category table key = grind (arith, nat_tests, within)

-- each number of an entry is sound for its category, and so is what its peripheral has to be
abbrev AreSound : Category → Numbers → Type 0
AreSound category numbers = (name : List ℕ) (variation : Variation) → ((key : NumberKey)
    → IsInItsRange key (has_number category key) (number_in (entry_with category name numbers variation) key))
    × IfSome (kind_of (entry_with category name numbers variation)) IsInRange

numbers_sound : (category : Category) (table : Members) → IfSome (numbers_of category table) (AreSound category)
numbers_sound category table = grind (arith, number_sound)

-- a truth value that isn't the plain one is of a category that has its key
truth_sound : (category : Category) (key : OptionalKey) (table : Members)
    → IfSome (truth_of category key table) (λ truth. truth ≡ true → has_option category key ≡ true)
truth_sound category key table = grind arith

failing_sound : (values : List Data) → IfSome (failing_in values) AreOrders
failing_sound values = grind (arith, within)

flaky_within : (value : Option Data) → IfSome (flaky_in value) (λ flaky. IfSome flaky AreOrders)
flaky_within value = grind (arith, failing_sound)

-- failing orders are of a category that has their key, and in their range
abbrev IsFlaky : Bool → Option (ℕ × ℕ) → Type 0
IsFlaky has flaky = (is_some flaky ≡ true → has ≡ true) × IfSome flaky AreOrders

flaky_sound : (category : Category) (table : Members)
    → IfSome (flaky_of category table) (IsFlaky (has_option category Flaky))
flaky_sound category table = grind (arith, flaky_within)

-- a device differs from a plain one by keys of its category alone, and its failing orders are in their range
abbrev IsVaried : Category → Variation → Type 0
IsVaried category variation = ((name : List ℕ) (numbers : Numbers) (key : OptionalKey)
    → differs_by (entry_with category name numbers variation) key ≡ true → has_option category key ≡ true)
    × IfSome variation.flaky AreOrders

variation_sound : (category : Category) (table : Members) → IfSome (variation_of category table) (IsVaried category)
variation_sound category table = grind (arith, truth_sound, flaky_sound)

-- a category that is allowed is the one that was asked for
category_sound : (role : Role) (table : Members)
    → IfSome (category_for role table) (λ category. allowed role category ≡ Some category)
category_sound role table = grind arith

name_sound : (role : Role) (table : Members) → IfSome (name_for role table) (IsNamedFor role)
name_sound role table = grind arith

-- an entry of sound parts, where it is kept
parts_sound : (role : Role) {category : Category} (name : List ℕ) (numbers : Numbers) (variation : Variation)
    (only : Bool) → allowed role category ≡ Some category → IsNamedFor role name → AreSound category numbers
    → IsVaried category variation
    → IfSome (cond only (Some (entry_with category name numbers variation)) None) (IsSoundEntry role)
parts_sound role name numbers variation true fits named sound varied =
    assumption (sound name variation, varied.0 name numbers)
parts_sound role name numbers variation false fits named sound varied = tt

table_sound : (role : Role) (found : Option Members)
    → IfSome (option_and_then (table_entry role) found) (IsSoundEntry role)
table_sound role None = tt
table_sound role (Some table) =
    let P = IsSoundEntry role in
    then_read P _ _ (category_for role table) (category_sound role table) (λ category fits. then_read P _ _
    (name_for role table) (name_sound role table) (λ name named. then_read P _ _ (numbers_of category table)
    (numbers_sound category table) (λ numbers sound. then_read P _ _ (variation_of category table)
    (variation_sound category table) (λ variation varied. parts_sound role name numbers variation
    (has_only (is_key (OfEntry role category)) table) fits named sound varied))))

-- an entry that is read is sound
pub entry_sound : (role : Role) (value : Data) → IfSome (entry_of role value) (IsSoundEntry role)
entry_sound role value = table_sound role (as_table value)

pub list_sound : {role : Role} (values : List Data) (entries : List Entry)
    → map (entry_of role) values ≡ map (λ entry. Some entry) entries → All (IsSoundEntry role) entries
list_sound {role} values [] is = All-nil (IsSoundEntry role)
list_sound [] (entry ∷ entries) is = absurd cc
list_sound {role} (value ∷ values) (entry ∷ entries) is =
    All-cons (IsSoundEntry role) entry entries (grind (arith, entry_sound role value)) (list_sound values entries cc)
