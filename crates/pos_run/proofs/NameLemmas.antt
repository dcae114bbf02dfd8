-- What a map keyed by names finds.
use Rattle.pos_run.proofs.Common.{List, Some, [], ap, bytes_eq, cond, map, number_named, refl, ℕ, ◌∷◌, ◌≡◌}
use Rattle.std.specs.Map.{lookup}

pub lookup_named : {K : Type 0} (items : K → List ℕ) (entries : List (K × ℕ)) (name : List ℕ)
    → lookup (λ k. bytes_eq name (items k)) entries
    ≡ number_named (map (λ entry. (items entry.0, entry.1)) entries) name
lookup_named items [] name = refl
lookup_named items (entry ∷ entries) name =
    ap (cond (bytes_eq name (items entry.0)) (Some entry.1)) (lookup_named items entries name)
