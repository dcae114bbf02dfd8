-- What is faulty in a document, by its two lists.
use Rattle.pos_profile.proofs.Common.{Category, Contents, Data, Entry, IsFlawedList, IsLowest, IsMistake, IsRead}
use Rattle.pos_profile.proofs.Common.{IsSoundList, IsSoundProfile, List, Members, Option, Reason, Some, Spare, []}
use Rattle.pos_profile.proofs.Common.{add-one, allowed, ap, arith, entries_of, entry_of, false, is_faulty, is_refused}
use Rattle.pos_profile.proofs.Common.{is_refused_after, is_repeated, is_root, is_totals, key_of, length, length-map}
use Rattle.pos_profile.proofs.Common.{map, mistake_at, names_of, option_map, refl, slice_get, slice_get-map, suc, sym}
use Rattle.pos_profile.proofs.Common.{take, take-append-le, true, values_at, zero, ℕ, ◌++◌, ◌+◌, ◌-◌, ◌<◌, ◌∙◌, ◌∷◌}
use Rattle.pos_profile.proofs.Common.{◌≡◌}
use Rattle.pos_profile.specs.declared.entry.Role.TheVariants.{Device}
use Rattle.pos_profile.proofs.ListLemmas.{none_past}
use Rattle.pos_profile.proofs.SoundLemmas.{entry_sound, list_sound}

-- the entries of both lists
abbrev both : Members → List (Option Entry)
both root = entries_of Device root ++ entries_of Spare root

faultless : (root : Members) (limit : ℕ) → is_root root ≡ true
    → ((n : ℕ) → n < limit → is_refused (both root) n ≡ false) → (n : ℕ) → n < limit + 1 → is_faulty root n ≡ false
faultless root limit is sound n less = grind (arith, sound (n - 1))

-- entries are numbered from 1
numbered : (root : Members) {place number : ℕ} → is_root root ≡ true → number ≡ place + 1
    → IsLowest (is_refused (both root)) place → IsLowest (is_faulty root) number
numbered root {place} is from lowest = grind (arith, faultless root place is lowest.below)

get_front : (front back : List (Option Entry)) (n : ℕ) → n < length front
    → slice_get (front ++ back) n ≡ slice_get front n
get_front [] back n less = absurd (omega arith)
get_front (x ∷ front) back zero less = refl
get_front (x ∷ front) back (suc n) less = get_front front back n (omega arith)

get_back : (front back : List (Option Entry)) (n k : ℕ) → k ≡ length front + n
    → slice_get (front ++ back) k ≡ slice_get back n
get_back [] back n k e = ap (slice_get back) (omega arith)
get_back (x ∷ front) back n zero e = absurd (omega arith)
get_back (x ∷ front) back n (suc k) e = get_back front back n k (omega arith)

-- what is refused of the first of two lists
refused_front : (front back : List (Option Entry)) (n : ℕ) → n < length front
    → is_refused (front ++ back) n ≡ is_refused front n
refused_front front back n less = rw (get_front front back n less, take-append-le n front back (omega arith))

-- a spare isn't Hard Totals
plain_spare : {category : Category} → allowed Spare category ≡ Some category → is_totals category ≡ false
plain_spare is = grind arith

-- whether a spare is refused doesn't hang on what stands before it
after_spare : (earlier others : List (Option Entry)) (value : Option Data) → is_refused_after earlier
    (option_map (entry_of Spare) value) ≡ is_refused_after others (option_map (entry_of Spare) value)
after_spare earlier others value = grind (arith, entry_sound Spare, plain_spare)

refused_back : (front : List (Option Entry)) (values : List Data) (n k : ℕ) → k ≡ length front + n
    → is_refused (front ++ map (entry_of Spare) values) k ≡ is_refused (map (entry_of Spare) values) n
refused_back front values n k e =
    let back = map (entry_of Spare) values in
    rw (get_back front back n k e, slice_get-map (entry_of Spare) values n)
    (after_spare (take k (front ++ back)) (take n back) (slice_get values n))

-- the lowest of the devices is the lowest of both
lowest_front : (front back : List (Option Entry)) (place : ℕ) → IsLowest (is_refused front) place
    → IsLowest (is_refused (front ++ back)) place
lowest_front front back place lowest = grind (arith, refused_front front back, none_past front place)

both_sound : (front : List (Option Entry)) (values : List Data) (limit : ℕ) → ((n : ℕ) → is_refused front n ≡ false)
    → ((n : ℕ) → n < limit → is_refused (map (entry_of Spare) values) n ≡ false) → (n : ℕ) → n < length front + limit
    → is_refused (front ++ map (entry_of Spare) values) n ≡ false
both_sound front values limit first second n less = grind (
  arith,
  refused_front front (map (entry_of Spare) values) n,
  refused_back front values (n - length front) n,
  first n,
  second (n - length front),
)

-- where no device is refused, the lowest of the spares is the lowest of both
lowest_back : (front : List (Option Entry)) (values : List Data) (place : ℕ) → ((n : ℕ) → is_refused front n ≡ false)
    → IsLowest (is_refused (map (entry_of Spare) values)) place
    → IsLowest (is_refused (front ++ map (entry_of Spare) values)) (length front + place)
lowest_back front values place first lowest =
    grind (arith, refused_back front values place, both_sound front values place first lowest.below)

-- where no device and no spare is refused, none of both is
neither : (front : List (Option Entry)) (values : List Data) → ((n : ℕ) → is_refused front n ≡ false)
    → ((n : ℕ) → is_refused (map (entry_of Spare) values) n ≡ false) → (n : ℕ)
    → is_refused (front ++ map (entry_of Spare) values) n ≡ false
neither front values first second n = grind (arith, both_sound front values (n + 1))

module _ (root : Members) (is : is_root root ≡ true) where
  -- a device is the first mistake
  pub device_mistaken : (place : ℕ) (why : Reason) → IsFlawedList Device (values_at (key_of Device) root) place why
      → IsMistake root (mistake_at 0 Device place why)
  device_mistaken place why flawed = record {
    lowest = numbered root is (omega arith)
        (lowest_front (entries_of Device root) (entries_of Spare root) place flawed.lowest);
    number = omega arith;
    has = rw add-one flawed.has;
  }

  module _ (devices : List Entry) (sound : IsSoundList Device (values_at (key_of Device) root) devices) where
    count : length (entries_of Device root) ≡ length devices
    count = ap length sound.entries ∙ length-map devices (λ (e : Entry). Some e)

    values_count : length (values_at (key_of Device) root) ≡ length devices
    values_count = sym (length-map (values_at (key_of Device) root) (entry_of Device)) ∙ count

    -- a spare is the first mistake
    pub spare_mistaken : (before place : ℕ) (why : Reason) → before ≡ length devices
        → IsFlawedList Spare (values_at (key_of Spare) root) place why
        → IsMistake root (mistake_at before Spare place why)
    spare_mistaken before place why are flawed = record {
      lowest = numbered root is (omega (arith, count))
          (lowest_back (entries_of Device root) (values_at (key_of Spare) root) place sound.sound flawed.lowest);
      number = omega (arith, values_count);
      has = rw add-one flawed.has;
    }

    -- the document has no mistake
    pub document_read : {spares : List Entry} → IsSoundList Spare (values_at (key_of Spare) root) spares
        → IsRead root (record { devices = devices; spares = spares })
    document_read {spares} others = record {
      sound = λ n. faultless root n is (λ k _. neither (entries_of Device root)
          (values_at (key_of Spare) root) sound.sound others.sound k) n (omega arith);
      devices = sound.entries;
      spares = others.entries;
    }

-- a document's devices and spares make a sound profile, where no name stands twice
pub profile_sound : {root : Members} {contents : Contents} → IsRead root contents
    → ((place : ℕ) → is_repeated (names_of contents.devices) place ≡ false) → IsSoundProfile contents
profile_sound {root} {contents} read names =
    let front = entries_of Device root in
    record {
      devices = list_sound (values_at (key_of Device) root) contents.devices read.devices;
      spares = list_sound (values_at (key_of Spare) root) contents.spares read.spares;
      totals = λ place. rw (← read.devices) (grind (
        arith,
        refused_front front (entries_of Spare root) place,
        none_past front place,
        read.sound (suc place),
      ));
      names = names;
    }
