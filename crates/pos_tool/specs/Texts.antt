-- Names and paths as lists of bytes.
use Rattle.std.specs.Prelude.{List, ℕ, Option, Some, None, Result, Ok, Err, String, Vec, map, string_bytes}
use Rattle.std.specs.declared.io.Error.{Error}

-- texts as lists of bytes
abbrev pub texts : {A : Type 0} → List (String A) → List (List ℕ)
texts names = map (λ name. string_bytes name) names

-- names that were listed, if a folder was
abbrev pub listed : {A B : Type 0} → Option (Vec (String A) B) → Option (List (List ℕ))
listed None = None
listed (Some names) = Some (texts names.items)

abbrev pub names_in : {A B : Type 0} → Result (Option (Vec (String A) B)) Error
    → Result (Option (List (List ℕ))) Error
names_in (Ok names) = Ok (listed names)
names_in (Err cause) = Err cause

-- what a call of a folder answers that gives nothing back
abbrev pub Done : Type 0
Done = Result (Unit {0}) Error
