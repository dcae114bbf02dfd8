-- Bytes written at the end of a Vec, within the room that it has.
use Rattle.std.specs.Prelude.{◌≡◌, ℕ, ◌+◌, ◌≤◌, List, ◌++◌, length, vec_len, vec_capacity}
use Rattle.std.specs.declared.vec.Vec.{Vec}

module _ {A : Type 0} where
  -- there is room for the bytes
  abbrev pub HasRoom : Vec ℕ A → List ℕ → Type 0
  HasRoom out bytes = vec_len out + length bytes ≤ vec_capacity out

  -- the bytes were written
  pub record Puts (old : Vec ℕ A) (bytes : List ℕ) (new : Vec ℕ A) : Type 0 where
    pub items : new.items ≡ old.items ++ bytes
    pub len : vec_len new ≡ vec_len old + length bytes
    pub capacity : vec_capacity old ≤ vec_capacity new
