-- What a text that is written leaves of the sink.
use Rattle.std.specs.Prelude.{◌≡◌, ◌++◌, ◌<◌, ℕ, length, List, Result, Ok, Err}
use Rattle.pos_streams.specs.Streams.{Appends, Fails, Given}

-- a front of a text was given, and not all of it, and then a write failed
abbrev pub IsCut : Given → Given → List ℕ → Type 0
IsCut old new text =
    (front : List ℕ) × (back : List ℕ) × (text ≡ front ++ back) × (0 < length back) × Fails old new front

-- all of a text where it succeeds, else a front of it and not all, and then a write failed
abbrev pub Writes : {E : Type 0} → Given → Given → List ℕ → Result (Unit {0}) E → Type 0
Writes old new text (Ok u) = Appends old new text
Writes old new text (Err e) = IsCut old new text
