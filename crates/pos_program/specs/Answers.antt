-- What is made of answers.
use Rattle.std.specs.Prelude.{◌≡◌, ℕ, List, Option, Some, None, Result, Ok, Err, String, Vec, Bool, true, false}
use Rattle.std.specs.Prelude.{string_bytes}

-- what reading bytes answered, with the bytes as a list
abbrev pub bytes_of : {A E : Type 0} → Result (Vec ℕ A) E → Result (List ℕ) E
bytes_of (Ok bytes) = Ok bytes.items
bytes_of (Err cause) = Err cause

-- what asking for a text answered, if there is one, with the text as a list
abbrev pub text_in : {A E : Type 0} → Result (Option (String A)) E → Result (Option (List ℕ)) E
text_in (Ok None) = Ok None
text_in (Ok (Some text)) = Ok (Some (string_bytes text))
text_in (Err cause) = Err cause

-- what is answered is what was, but for a fault, which is told so
abbrev pub Passes : {A C E : Type 0} → (C → E → Type 0) → Result A C → Result A E → Type 0
Passes Tells (Ok value) result = result ≡ Ok value
Passes Tells (Err cause) (Ok value) = ⊥
Passes Tells (Err cause) (Err why) = Tells cause why

-- what is answered for what was opened: this, or the fault of the opening
abbrev pub AnswersFor : {A B E : Type 0} → (A → Result B E → Type 0) → Result A E → Result B E → Type 0
AnswersFor Answers (Ok opened) result = Answers opened result
AnswersFor Answers (Err why) result = result ≡ Err why

-- what is answered to a question that has to be yes: nothing then, if it isn't this, and for a fault what tells of it
abbrev pub HasToBe : {C E : Type 0} → E → (C → E → Type 0) → Result Bool C → Result (Unit {0}) E → Type 0
HasToBe denied Tells (Ok true) result = result ≡ Ok tt
HasToBe denied Tells (Ok false) result = result ≡ Err denied
HasToBe denied Tells (Err cause) (Ok u) = ⊥
HasToBe denied Tells (Err cause) (Err why) = Tells cause why
