-- The words of specifications and of the standard library that the proofs of this crate cite, passed on from one place.
pub use Rattle.std.proofs.Common.{Bool, List, [], ap, arith, cond, false, get_or, inl, inr, length, length-append, refl}
pub use Rattle.std.proofs.Common.{sym, subst, true, ℕ, ⊎_elim, ◌++◌, ◌+◌, ◌<◌, ◌^◌, ◌∙◌, ◌∷◌, ◌≡◌, ◌≤◌, ◌⊎◌, Option}
pub use Rattle.std.proofs.Common.{Some, None, Err, Ok, append_assoc}
pub use Rattle.std.proofs.Math.Seq.{get_or-append_seam}
pub use Rattle.std.proofs.lemmas.Bool.{cases_lt, false≢true, true≢false}
pub use Rattle.std.proofs.lemmas.List.{get_or_append_left, get_or_default}
