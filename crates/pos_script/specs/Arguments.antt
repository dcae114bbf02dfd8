-- How the words of a line are read: their shapes, and what they stand for (docs/reference/console.md, "Words").
use Rattle.std.specs.Prelude.{◌≡◌, ℕ, Bool, true, false, ◌||◌, List, [], ◌∷◌, Option, Some, None, is_some, option_map}
use Rattle.std.specs.Prelude.{Result, Ok, Err}
use Rattle.pos_script.specs.declared.arguments.ArgumentFault.{ArgumentFault}
use Rattle.pos_script.specs.declared.arguments.ArgumentFault.TheVariants as fault

-- The shape of an argument: what a word stands for, if it is of this shape, and whether that is kept in memory.
pub record Shape (A : Type 0) : Type 0 where
  pub named : List ℕ → Option A
  pub is_kept : Bool

-- What words stand for, or nothing where their shape is wrong; and whether a part of it is kept in memory.
pub record Reading (A : Type 0) : Type 0 where
  pub value : Option A
  pub is_kept : Bool

-- words of a wrong shape
abbrev pub misshapen : {A : Type 0} → Reading A
misshapen = record { value = None; is_kept = false }

-- a word read as an argument of a shape
abbrev pub word_as : {A : Type 0} → Shape A → List ℕ → Reading A
word_as shape word = record { value = shape.named word; is_kept = shape.is_kept }

-- what is made of what words stand for
abbrev pub become : {A B : Type 0} → (A → B) → Reading A → Reading B
become make reading = record { value = option_map make reading.value; is_kept = reading.is_kept }

-- two values, if both are there
abbrev pub pair_of : {A B : Type 0} → Option A → Option B → Option (A × B)
pair_of None second = None
pair_of (Some first) None = None
pair_of (Some first) (Some second) = Some (first, second)

-- no argument
abbrev pub none : List (List ℕ) → Reading (Unit {0})
none [] = record { value = Some tt; is_kept = false }
none (word ∷ words) = misshapen

-- one argument
abbrev pub one : {A : Type 0} → Shape A → List (List ℕ) → Reading A
one shape [] = misshapen
one shape (word ∷ []) = word_as shape word
one shape (word ∷ more ∷ words) = misshapen

-- an argument, and what the words behind it stand for
abbrev pub first : {A B : Type 0} → Shape A → (List (List ℕ) → Reading B) → List (List ℕ) → Reading (A × B)
first shape rest [] = misshapen
first shape rest (word ∷ words) =
    record { value = pair_of (shape.named word) (rest words).value; is_kept = shape.is_kept || (rest words).is_kept }

-- two arguments
abbrev pub two : {A B : Type 0} → Shape A → Shape B → List (List ℕ) → Reading (A × B)
two s t words = first s (one t) words

-- three arguments
abbrev pub three : {A B C : Type 0} → Shape A → Shape B → Shape C → List (List ℕ) → Reading (A × (B × C))
three s t u words = first s (two t u) words

-- four arguments
abbrev pub four : {A B C D : Type 0} → Shape A → Shape B → Shape C → Shape D
    → List (List ℕ) → Reading (A × (B × (C × D)))
four s t u v words = first s (three t u v) words

-- what is made where there are no arguments
abbrev pub from_none : {R : Type 0} → R → List (List ℕ) → Reading R
from_none made words = become (λ u. made) (none words)

-- what is made of one argument
abbrev pub from_one : {A R : Type 0} → Shape A → (A → R) → List (List ℕ) → Reading R
from_one shape make words = become make (one shape words)

-- what is made of two arguments
abbrev pub from_two : {A B R : Type 0} → Shape A → Shape B → (A → B → R) → List (List ℕ) → Reading R
from_two s t make words = become (λ read. make read.0 read.1) (two s t words)

-- what is made of three arguments
abbrev pub from_three : {A B C R : Type 0} → Shape A → Shape B → Shape C → (A → B → C → R)
    → List (List ℕ) → Reading R
from_three s t u make words =
    become (λ read. let (first, others) = read in make first others.0 others.1) (three s t u words)

-- what is made of four arguments
abbrev pub from_four : {A B C D R : Type 0} → Shape A → Shape B → Shape C → Shape D → (A → B → C → D → R)
    → List (List ℕ) → Reading R
from_four s t u v make words =
    become (λ read. let (first, (second, others)) = read in make first second others.0 others.1) (four s t u v words)

-- the value of a result, if it succeeded
abbrev pub value_of : {A E : Type 0} → Result A E → Option A
value_of (Ok value) = Some value
value_of (Err e) = None

-- what reading answers: what the words stand for, or that their shape is wrong. Where the shape is right and a part is
-- kept, there may be no memory.
abbrev pub Reads : {A : Type 0} → Reading A → Result A ArgumentFault → Type 0
Reads reading (Ok value) = reading.value ≡ Some value
Reads reading (Err fault.WrongShape) = reading.value ≡ None
Reads reading (Err fault.NoMemory) = (is_some reading.value ≡ true) × (reading.is_kept ≡ true)

-- what a first look at words tells, which takes no memory: what they stand for, where none of it is kept; else whether
-- their shape is right
abbrev pub Glances : {A : Type 0} → Reading A → Result (Option A) ArgumentFault → Type 0
Glances reading (Ok (Some value)) = reading.value ≡ Some value
Glances reading (Ok None) = is_some reading.value ≡ true
Glances reading (Err e) = reading.value ≡ None
