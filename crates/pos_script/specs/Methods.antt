-- The methods of `call` (docs/reference/console.md, "Methods"): how the words after them are read.
use Rattle.std.specs.Prelude.{ℕ, List, Bool, Option, Some, None, bytes_eq, filter, length}
use Rattle.std.specs.Map.{lookup}
use Rattle.pos_service.specs.declared.call.Call.{Call}
use Rattle.pos_service.specs.Calls.{ArgumentKind, Number, Truth, Bytes, argument_of, methods}
use Rattle.pos_service.specs.Calls.{Signature, OfNone, OfOne, OfTwo, OfThree, OfFour}
use Rattle.pos_script.specs.Arguments.{Reading, Shape, misshapen, from_none, from_one, from_two, from_three, from_four}
use Rattle.pos_script.specs.Words.{bytes_shape, number_shape, truth_shape}

-- the shape of an argument of a kind
abbrev pub shape_of : (a : ArgumentKind) → Shape (argument_of a)
shape_of Number = number_shape
shape_of Truth = truth_shape
shape_of Bytes = bytes_shape

-- the call that the words after a method stand for
abbrev pub CallReading : Type 0
CallReading = List (List ℕ) → Reading Call

-- the call of a method, by its signature
abbrev pub reads_as : Signature → CallReading
reads_as (OfNone call) words = from_none call words
reads_as (OfOne a make) words = from_one (shape_of a) make words
reads_as (OfTwo a b make) words = from_two (shape_of a) (shape_of b) make words
reads_as (OfThree a b c make) words = from_three (shape_of a) (shape_of b) (shape_of c) make words
reads_as (OfFour a b c d make) words = from_four (shape_of a) (shape_of b) (shape_of c) (shape_of d) make words

-- the methods whose words have such a length
abbrev pub methods_of : (ℕ → Bool) → List (List ℕ × Signature)
methods_of is_length = filter (λ method. is_length (length method.0)) methods

-- the call of the method that was found
abbrev pub reading_of : Option Signature → CallReading
reading_of None words = misshapen
reading_of (Some signature) words = reads_as signature words

-- the call of the method with a word, among these
abbrev pub call_among : List (List ℕ × Signature) → List ℕ → CallReading
call_among methods word words = reading_of (lookup (bytes_eq word) methods) words

-- the call of a method, whatever its control is
abbrev pub call_of : List ℕ → CallReading
call_of word words = call_among methods word words
