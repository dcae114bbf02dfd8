-- The stamps of a disk in memory, and its saved bytes.
use Rattle.pos_disk.proofs.Common.{Bool, IsSaved, LeftAt, List, Moment, [], ap, arith, choose, common_steps, cond}
use Rattle.pos_disk.proofs.Common.{ext_get_or, false, fresh, get_or, length, length-map, loose_by, memory_of, nat_tests}
use Rattle.pos_disk.proofs.Common.{refl, replicate, suc, true, zero, ℕ, ◌<◌, ◌==◌, ◌∙◌, ◌∷◌, ◌≡◌}

-- a place is loose where it bears the present stamp
pub loose_is : (stamp : ℕ) (stamps : List ℕ) (i : ℕ) → i < length stamps
    → get_or (loose_by stamp stamps) i false ≡ (get_or stamps i 0 == stamp)
loose_is stamp stamps i inside = grind (arith, common_steps)

-- what is chosen has the length of the second list
pub length-choose : (loose : List Bool) (xs ys : List ℕ) → length loose ≡ length ys → length xs ≡ length ys
    → length (choose loose xs ys) ≡ length ys
length-choose [] [] [] long same = refl
length-choose (true ∷ loose) (x ∷ xs) (y ∷ ys) long same =
    ap suc (length-choose loose xs ys (omega arith) (omega arith))
length-choose (false ∷ loose) (x ∷ xs) (y ∷ ys) long same =
    ap suc (length-choose loose xs ys (omega arith) (omega arith))
length-choose loose xs ys long same = absurd (omega arith)

-- at a loose place the first list tells, and at any other the second
pub choose_at : (loose : List Bool) (xs ys : List ℕ) (i : ℕ) → length loose ≡ length ys → length xs ≡ length ys
    → get_or (choose loose xs ys) i 0 ≡ cond (get_or loose i false) (get_or xs i 0) (get_or ys i 0)
choose_at [] [] [] i long same = refl
choose_at (true ∷ loose) (x ∷ xs) (y ∷ ys) zero long same = refl
choose_at (false ∷ loose) (x ∷ xs) (y ∷ ys) zero long same = refl
choose_at (true ∷ loose) (x ∷ xs) (y ∷ ys) (suc i) long same = choose_at loose xs ys i (omega arith) (omega arith)
choose_at (false ∷ loose) (x ∷ xs) (y ∷ ys) (suc i) long same = choose_at loose xs ys i (omega arith) (omega arith)
choose_at loose xs ys i long same = absurd (omega arith)

-- so where each place bears a stamp, those that bear the present one have their saved bytes
module _ (bytes saved stamps : List ℕ) (stamp : ℕ) (long : length stamps ≡ length bytes)
    (same : length saved ≡ length bytes) where
  pub length_settled : length (choose (loose_by stamp stamps) saved bytes) ≡ length bytes
  length_settled = length-choose (loose_by stamp stamps) saved bytes (length-map stamps (λ s. s == stamp) ∙ long) same

  pub settled_at : (i : ℕ) → i < length bytes → get_or (choose (loose_by stamp stamps) saved bytes) i 0
      ≡ cond (get_or stamps i 0 == stamp) (get_or saved i 0) (get_or bytes i 0)
  settled_at i inside = grind (arith, loose_is, choose_at, loose_by, length-map)

-- a crash may leave whatever is chosen at the loose places
pub choose_left : (moment : Moment) (xs : List ℕ) → length moment.loose ≡ length moment.reading
    → length xs ≡ length moment.reading → LeftAt moment (choose moment.loose xs moment.reading)
choose_left moment xs long same = grind (arith, length-choose, choose_at)

-- where each place has been saved
module _ (bytes stamps old new : List ℕ) (stamp : ℕ) (long : length stamps ≡ length bytes)
    (same : length old ≡ length bytes) where
  -- saving all places gives the bytes at the last sync
  pub saved_all : IsSaved stamps stamp bytes 0 (length bytes) old new → new ≡ choose (loose_by stamp stamps) old bytes
  saved_all saved =
      ext_get_or 0 new _ (omega (arith, saved.same_length, same, length_settled bytes old stamps stamp long same))
      (λ i inside. grind (arith, nat_tests, settled_at bytes old stamps stamp long same i, saved))

-- a byte is chosen from either of two equal lists
pub choose_same : (loose : List Bool) (ys : List ℕ) → length loose ≡ length ys → choose loose ys ys ≡ ys
choose_same loose ys long = ext_get_or 0 _ ys (length-choose loose ys ys long refl)
    (λ i inside. grind (arith, choose_at loose ys ys i long refl))

-- no place bears a later stamp
pub none_bear : {stamp : ℕ} (stamps : List ℕ) → ((i : ℕ) → get_or stamps i 0 < stamp)
    → loose_by stamp stamps ≡ replicate (length stamps) false
none_bear [] earlier = refl
none_bear {stamp} (s ∷ stamps) earlier =
    let other : (s == stamp) ≡ false = let below : s < stamp = earlier 0 in grind (arith, nat_tests) in
    ap (λ (b : Bool). b ∷ loose_by stamp stamps) other
    ∙ ap (λ (l : List Bool). false ∷ l) (none_bear stamps (λ i. earlier (suc i)))

-- under a stamp that no place bears, the disk is at rest
pub memory_fresh : {bytes : List ℕ} (saved stamps : List ℕ) {stamp : ℕ} (past : List Moment)
    → length saved ≡ length bytes → length stamps ≡ length bytes → ((i : ℕ) → get_or stamps i 0 < stamp)
    → memory_of bytes saved stamps stamp past ≡ record (fresh bytes) { past = past }
memory_fresh {bytes} saved stamps {stamp} past saved_long long earlier =
    let none : loose_by stamp stamps ≡ replicate (length bytes) false = rw (← long) (none_bear stamps earlier) in
    let size = length_settled bytes saved stamps stamp long saved_long in
    let settled : choose (loose_by stamp stamps) saved bytes ≡ bytes = ext_get_or 0 _ bytes size (λ i inside.
    grind (arith, nat_tests, earlier i, settled_at bytes saved stamps stamp long saved_long i (omega (arith, size)))) in
    rw (settled, none)

-- cleared stamps are below 1
pub zeros : (n i : ℕ) → get_or (replicate n 0) i 0 < 1
zeros n i = grind (arith, common_steps)
