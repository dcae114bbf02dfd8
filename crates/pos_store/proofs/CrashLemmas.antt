-- How what a crash leaves of a disk goes on.
use Rattle.pos_store.proofs.Common.{DiskState, Layout, LeavesItsFiles, LeavesOneOf, List, MayLeave, Off, Passes, Ready}
use Rattle.pos_store.proofs.Common.{Standing, StandsForEither, StandsForOneOf, StoreState, inl, settled, started}
use Rattle.pos_store.proofs.Common.{weaker, ℕ, arith}

-- a disk that no call has touched
pub stays : (disk : DiskState) (left : List Standing) → ((c : List ℕ) → disk.left_since disk.moment c → MayLeave disk c)
    → LeavesOneOf left disk → Passes disk disk left left
stays disk left only leaves = record {
  any_moment = started disk (StandsForEither left left) (λ c since. inl (leaves c (only c since)));
  now = leaves;
}

-- more may be left after the calls
pub wider : (old new : DiskState) (before after other : List Standing)
    → ((c : List ℕ) → StandsForOneOf after c → StandsForOneOf other c) → Passes old new before after
    → Passes old new before other
wider old new before after other to passes = grind (arith, weaker)

-- what a crash leaves is settled, where the files of a store are left alone
pub settles : (layout : Layout) (state : StoreState) (old new : DiskState) (candidates : List Standing)
    → Passes old new candidates candidates → LeavesItsFiles layout state new
    → Passes old new candidates (settled layout state candidates)
settles layout Off old new candidates passes now = passes
settles layout (Ready files sequence) old new candidates passes now = grind (arith, weaker)
