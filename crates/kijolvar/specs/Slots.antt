-- What C's variable for a till owns.
use Rattle.std.specs.Prelude.{Option, None, Some}
use base.Fml.{Fml, ftrue}

-- what a value owns, if there is one
abbrev pub owns_if_some : {A : Type 0} → (A → Fml) → Option A → Fml
owns_if_some owns (Some a) = owns a
owns_if_some owns None = ftrue
