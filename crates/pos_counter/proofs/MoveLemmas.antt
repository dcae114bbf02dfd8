-- A crash while a disk is moved to layout 2 leaves a prefix of the history, and so does one of what runs after it.
use Rattle.pos_counter.proofs.Common.{History, IsOneOf, IsPrefixOf, Layout2, List, Standing, StandsForEither}
use Rattle.pos_counter.proofs.Common.{StandsForOneOf, StandsForSome, [], ap, inl, inr, refl, ℕ, ⊎_elim, ◌∷◌}
use Rattle.std.specs.Prelude.{map}
use Rattle.pos_store.specs.MovedDisks.{moved}
use Rattle.pos_counter.specs.Moves.{IsPrefixThrough}
use Rattle.pos_counter.proofs.PrefixRunLemmas.{some_left}
use Rattle.pos_counter.proofs.PrefixLemmas.{made_by_layout_2}

-- a prefix by the layout of the history is one
kept_through : (history : History) {standing : Standing} → IsPrefixOf history standing
    → IsPrefixThrough history standing
kept_through history is = record {
  prefix = is.prefix;
  first = is.first;
  holds = is.holds;
  layout = history.layout;
  by = inl refl;
  files = is.files;
  sequence = is.sequence;
  made = is.made;
  stands = is.stands;
}

-- and so are its files, moved
moved_through : (history : History) {standing : Standing} → IsPrefixOf history standing
    → IsPrefixThrough history (moved standing)
moved_through history is = record {
  prefix = is.prefix;
  first = is.first;
  holds = is.holds;
  layout = Layout2;
  by = inr refl;
  files = is.files;
  sequence = 1;
  made = made_by_layout_2 history.layout history.start is.prefix is.made;
  stands = ap moved is.stands;
}

-- bytes that stand for one of the standings that were moved
some_moved : (P : Standing → Type 0) (left : List Standing) {bytes : List ℕ}
    → ((standing : Standing) → IsOneOf left standing → P (moved standing)) → StandsForOneOf (map moved left) bytes
    → StandsForSome P bytes
some_moved P [] each is = absurd is
some_moved P (standing ∷ left) each (inl is) =
    record { standing = moved standing; stands = is; has = each standing (inl refl) }
some_moved P (standing ∷ left) each (inr is) = some_moved P left (λ other one. each other (inr one)) is

-- what a move leaves
pub through : (history : History) (left : List Standing)
    → ((standing : Standing) → IsOneOf left standing → IsPrefixOf history standing) → (bytes : List ℕ)
    → StandsForEither left (map moved left) bytes → StandsForSome (IsPrefixThrough history) bytes
through history left each bytes either = ⊎_elim (λ was. some_left (IsPrefixThrough history) left
    (λ standing one. kept_through history (each standing one)) was) (λ is. some_moved (IsPrefixThrough history) left
    (λ standing one. moved_through history (each standing one)) is) either
