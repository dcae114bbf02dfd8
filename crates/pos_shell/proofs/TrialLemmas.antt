-- Scripts that are tried one after another.
use Rattle.std.proofs.Common.{ap, length, map, take, drop, get_or, ◌+◌, ◌++◌, ◌<◌, ◌∙◌, ◌∷◌, ◌≡◌, List, Ok, [], ℕ}
use Rattle.std.specs.Prelude.{None, Result, IfOk, Err, ⊤}
use Rattle.std.proofs.lemmas.List.{map-append}
use Rattle.pos_disk.specs.Memory.{Memory, MemoryReads, MemorySyncs, MemoryWrites, state_of}
use Rattle.pos_disk.specs.declared.device.Disk.{Ghosts as DiskGhosts}
use Rattle.pos_profile.specs.Entries.{Contents}
use Rattle.pos_program.specs.declared.file_system.FileSystem.{Ghosts as SystemGhosts}
use Rattle.pos_shell.proofs.RunLemmas.{in_parts, one_taken}
use Rattle.pos_shell.specs.Trials.{AreTried, TriesScript}
use Rattle.pos_shell.specs.declared.trials.Trial.{Trial}

-- what contracts see of a disk in memory
abbrev pub in_memory : DiskGhosts Memory
in_memory = record {
  size = λ m. length m.present.reading;
  fixed = λ _. None;
  honest = λ m. ⊤;
  state = λ m. state_of m;
  own_read = MemoryReads;
  own_write = MemoryWrites;
  own_sync = MemorySyncs;
}

-- one more script was tried
pub tried_more : {S F : Type 0} (system : SystemGhosts S F) (them : S) {bound : DiskGhosts Memory} {contents : Contents}
    (paths : List (List ℕ)) (trials : List Trial) {path : List ℕ} (trial : Trial)
    → AreTried system them bound contents paths trials → trial.path.now ≡ path
    → TriesScript system them bound contents path (Ok trial.differences.items)
    → AreTried system them bound contents (paths ++ path ∷ []) (trials ++ trial ∷ [])
tried_more system them [] [] trial are same one = (same, one, tt)
tried_more system them [] (first ∷ trials) trial are same one = absurd are
tried_more system them (other ∷ paths) [] trial are same one = absurd are
tried_more system them (other ∷ paths) (first ∷ trials) trial (is, done, are) same one =
    (is, done, tried_more system them paths trials trial are same one)

module _ {A B : Type 0} (f : A → B) (xs : List A) (i : ℕ) (x : A) (lt : i < length xs) (is : x ≡ get_or xs i x) where
  -- what is mapped before a place, there, and after it
  pub mapped_parts : map f xs ≡ map f (take i xs) ++ f x ∷ map f (drop (i + 1) xs)
  mapped_parts = ap (map f) (in_parts xs i x lt is) ∙ map-append f (take i xs) (x ∷ drop (i + 1) xs)

  -- what is mapped up to a place
  pub mapped_taken : map f (take (i + 1) xs) ≡ map f (take i xs) ++ f x ∷ []
  mapped_taken = ap (map f) (one_taken xs i x lt is) ∙ map-append f (take i xs) (x ∷ [])

-- what holds of an answer, by what else holds of it
pub ok_map : {A E : Type 0} {P Q : A → Type 0} (result : Result A E) → ((x : A) → P x → Q x) → IfOk result P
    → IfOk result Q
ok_map (Ok x) gives holds = gives x holds
ok_map (Err why) gives holds = tt
