-- What is told of a profile's text, and of the bytes of a totals file, without a till (abi/README.md, "Questions").
use Rattle.std.specs.Prelude.{◌≡◌, ℕ, List, length, nat_le}
use Rattle.kijolvar.specs.Codes.{told_as}
use Rattle.kijolvar.specs.Tills.{WritesAnswer, WritesNothing}

-- The front of a text that there is room for is written, and how long it is; the code is this one if that is all of it.
pub record WritesText (told before after : List ℕ) (needed fine code : ℕ) : Type 0 where
  pub tells : WritesAnswer told before after needed
  pub code_told : code ≡ told_as fine (nat_le (length told) (length before))

-- nothing is written, the place neither, and the code is this one
pub record WritesNoText (at_before at : ℕ) (before after : List ℕ) (needed_before needed code why : ℕ) : Type 0 where
  pub at_stays : at ≡ at_before
  pub tells : WritesNothing before after needed_before needed code why
