-- What the words of a line stand for (docs/reference/console.md, "Words").
use Rattle.std.specs.Prelude.{ℕ, ℤ, pos, negsuc, neg_ℤ, min, Bool, true, false, not, ◌&&◌, ◌+◌, ◌-◌, ◌*◌, List, [], ◌∷◌}
use Rattle.std.specs.Prelude.{Option, Some, None, length, nat_le, ◌==◌, bytes_eq, codes, if◌then◌else◌, option_map}
use Rattle.std.specs.Prelude.{option_and_then}
use Rattle.std.specs.List.{list_all, fold}
use Rattle.hex.specs.Hex.{decode_of}
use Rattle.pos_service.specs.declared.category.Category.{Category}
use Rattle.pos_service.specs.declared.event.ErrorReply.{ErrorReply}
use Rattle.pos_service.specs.declared.event.ErrorReply.TheVariants as reply
use Rattle.pos_service.specs.declared.property.Property.{Property}
use Rattle.pos_service.specs.declared.answer.Value.{Value}
use Rattle.pos_service.specs.declared.answer.Value.TheVariants as value
use Rattle.pos_service.specs.Names.{is_device_name}
use Rattle.pos_service.specs.Categories.{category_named}
use Rattle.pos_service.specs.Properties.{property_named}
use Rattle.pos_script.specs.Lines.{is_nothing}
use Rattle.pos_script.specs.Arguments.{Reading, Shape, value_of}
use Rattle.pos_script.specs.declared.arguments.DeviceName.{DeviceName}

-- whether a byte is a decimal digit
abbrev pub is_digit : ℕ → Bool
is_digit b = nat_le 48 b && nat_le b 57

-- whether a word is of 1 to 18 digits
abbrev pub is_digits : List ℕ → Bool
is_digits word = nat_le (length word) 18 && not (is_nothing word) && list_all is_digit word

-- the number that decimal digits write
abbrev pub number_of_digits : List ℕ → ℕ
number_of_digits digits = fold (λ n b. n * 10 + (b - 48)) 0 digits

-- the number of 1 to 18 digits
abbrev pub digits_named : List ℕ → Option ℕ
digits_named word = if is_digits word then Some (number_of_digits word) else None

-- the number of 1 to 18 digits, with or without a minus before them
abbrev pub number_named : List ℕ → Option ℤ
number_named [] = None
number_named (b ∷ bs) =
    if b == 45 then option_map (λ n. neg_ℤ (pos n)) (digits_named bs) else option_map pos (digits_named (b ∷ bs))

-- the greatest number of 32 bits
abbrev pub most_count : ℕ
most_count = 4294967295

-- a number that isn't negative, and where it is past 32 bits the greatest of these
abbrev pub count_of : ℤ → Option ℕ
count_of (pos n) = Some (min n most_count)
count_of (negsuc n) = None

-- the number that a word stands for, where it isn't negative
abbrev pub count_named : List ℕ → Option ℕ
count_named word = option_and_then count_of (number_named word)

-- the truth value of a word
abbrev pub truth_named : List ℕ → Option Bool
truth_named word =
    if bytes_eq word (codes "true") then Some true
    else (if bytes_eq word (codes "false") then Some false else None)

-- the bytes that a word writes: a hyphen for none, else two hex digits of either case for each
abbrev pub bytes_named : List ℕ → Option (List ℕ)
bytes_named word = if bytes_eq word (codes "-") then Some [] else value_of (decode_of word)

-- hex digits, read as the bytes that they write
abbrev pub decoded : List ℕ → Reading (List ℕ)
decoded digits = record { value = value_of (decode_of digits); is_kept = true }

-- the value that a word stands for: a truth value or a number
abbrev pub value_named : List ℕ → Option Value
value_named word =
    if bytes_eq word (codes "true") then Some (value.Truth true)
    else (if bytes_eq word (codes "false") then Some (value.Truth false)
    else option_map value.Number (number_named word))

-- the reply to an ErrorEvent of this name
abbrev pub error_reply_named : List ℕ → Option ErrorReply
error_reply_named word =
    if bytes_eq word (codes "retry") then Some reply.Retry
    else (if bytes_eq word (codes "clear") then Some reply.Clear
    else (if bytes_eq word (codes "continue") then Some reply.ContinueInput else None))

-- the name of a device
abbrev pub device_named : List ℕ → Option DeviceName
device_named word = if is_device_name word then Some (record { name = word }) else None

-- a shape whose words are kept in memory
abbrev pub kept : {A : Type 0} → (List ℕ → Option A) → Shape A
kept named = record { named = named; is_kept = true }

-- a shape of which nothing is kept
abbrev pub plain : {A : Type 0} → (List ℕ → Option A) → Shape A
plain named = record { named = named; is_kept = false }

-- the shapes of arguments
abbrev pub number_shape : Shape ℤ
number_shape = plain number_named

abbrev pub count_shape : Shape ℕ
count_shape = plain count_named

abbrev pub truth_shape : Shape Bool
truth_shape = plain truth_named

abbrev pub bytes_shape : Shape (List ℕ)
bytes_shape = kept bytes_named

abbrev pub value_shape : Shape Value
value_shape = plain value_named

abbrev pub category_shape : Shape Category
category_shape = plain category_named

abbrev pub property_shape : Shape Property
property_shape = plain property_named

abbrev pub error_reply_shape : Shape ErrorReply
error_reply_shape = plain error_reply_named

abbrev pub device_shape : Shape DeviceName
device_shape = kept device_named
