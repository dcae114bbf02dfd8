-- What a move to layout 2 makes of a host's file.
use Rattle.std.proofs.Common.{Err, List, Ok, ap, inl, inr, length, subst, ℕ, ◌∙◌, ◌≡◌, ◌≤◌, ◌⊎◌, ⊎_elim}
use Rattle.std.specs.Prelude.{MatchResult, Result, Some, false}
use Rattle.pos_disk.specs.Memory.{fresh}
use Rattle.pos_image.specs.Layout.{disk_size}
use Rattle.pos_store.specs.Migrations.{KeepsFirstLayout}
use Rattle.pos_store.specs.MovedDisks.{MovesAny}
use Rattle.pos_store.specs.declared.fault.StoreFault.{StoreFault}
use Rattle.kijolvar.proofs.HostedLemmas.{file_follows}
use Rattle.kijolvar.specs.Codes.{no_memory}
use Rattle.kijolvar.specs.Errands.{no_work}
use Rattle.kijolvar.specs.Openings.{IsMovedOf, RefusesMove, RefusesTotals, disk_in_file, move_code}
use Rattle.kijolvar.specs.TillDisks.{HostedDisk, IsInStep, fixed_of, hosted, hosted_state, settlement_with}
use Rattle.kijolvar.specs.declared.till_disk.Settlement.TheVariants.{Owed}

-- a disk of the file that was moved, with its errands, is the one that the move makes; one was lost for want of memory
pub is_moved : {bytes : List ℕ} {old : HostedDisk} (new : HostedDisk) (result : Result HostedDisk ℕ)
    → old ≡ hosted (fresh bytes) (Some (no_work bytes)) → MovesAny (hosted_state old) (hosted_state new) (Ok tt)
    → KeepsFirstLayout (hosted_state old).reading (hosted_state new).reading → fixed_of new ≡ fixed_of old
    → MatchResult result (λ same. (same ≡ new) × IsInStep new × (settlement_with new.work false ≡ Owed))
    (λ code. code ≡ no_memory) → MatchResult result (IsMovedOf bytes)
    (λ code. (code ≡ no_memory) ⊎ RefusesTotals bytes code)
is_moved {bytes} new (Ok it) same moves rest file (is, in_step, owed) = rw is (record {
  moves = subst (λ (d : HostedDisk). MovesAny (hosted_state d) (hosted_state new) (Ok tt)) same moves;
  rest = subst (λ (d : HostedDisk). KeepsFirstLayout (hosted_state d).reading (hosted_state new).reading) same rest;
  file = file ∙ ap fixed_of same;
  in_step = in_step;
  follows = file_follows (disk_in_file bytes) new (file ∙ ap fixed_of same) in_step;
  owed = owed;
})
is_moved new (Err code) same moves rest file none = inl none

-- totals that aren't moved are refused for what the bytes hold
pub isnt_moved : {bytes : List ℕ} {old : HostedDisk} (new : HostedDisk) {why : StoreFault} {code : ℕ}
    → old ≡ hosted (fresh bytes) (Some (no_work bytes)) → MovesAny (hosted_state old) (hosted_state new) (Err why)
    → code ≡ move_code why → (code ≡ no_memory) ⊎ RefusesTotals bytes code
isnt_moved new {why} same moves told = inr (
  why,
  new,
  subst (λ (d : HostedDisk). MovesAny (hosted_state d) (hosted_state new) (Err why)) same moves,
  told,
)

-- a file that is long enough for a disk is moved or refused as its totals are
pub file_answers : (bytes : List ℕ) (result : Result HostedDisk ℕ) → disk_size ≤ length bytes
    → MatchResult result (IsMovedOf bytes) (λ code. (code ≡ no_memory) ⊎ RefusesTotals bytes code)
    → MatchResult result (IsMovedOf bytes) (RefusesMove bytes)
file_answers bytes (Ok disk) enough moved = moved
file_answers bytes (Err code) enough refused = ⊎_elim (λ (none : code ≡ no_memory). inl none)
    (λ (totals : RefusesTotals bytes code). inr (inr (enough, totals))) refused
