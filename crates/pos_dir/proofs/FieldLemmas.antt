-- A field that is read is the field that was spelled, and what was spelled is read again.
use Rattle.pos_dir.proofs.Common.{Bool, List, None, Option, Some, Width, [], ap, append_assoc, arith, byte_at, byte_len}
use Rattle.pos_dir.proofs.Common.{cases_lt, cond, drop, drop_at, false, from_be_bytes, get_or, get_or-append-add}
use Rattle.pos_dir.proofs.Common.{get_or-drop, get_or-take, get_or_past, inl, inr, is_name, le-ltb, length}
use Rattle.pos_dir.proofs.Common.{length-append, length-take, ltb, name_at, name_spelling, nat_tests, number_at}
use Rattle.pos_dir.proofs.Common.{part_at, refl, subst, take, take-append-drop, take_at, text_at, text_spelling}
use Rattle.pos_dir.proofs.Common.{to_be_bytes, true, w16, w32, ℕ, ◌++◌, ◌+◌, ◌<◌, ◌>>=◌, ◌^◌, ◌∙◌, ◌∷◌, ◌≡◌}
use Rattle.std.proofs.lemmas.Nat.{be_bytes_2, be_bytes_4, from_be_bytes-to_be_bytes_2, from_be_bytes-to_be_bytes_4}

-- each is a byte
abbrev pub IsBytes : List ℕ → Type 0
IsBytes bytes = (i : ℕ) → get_or bytes i 0 < 256

pub IsBytes-drop : (n : ℕ) (bytes : List ℕ) → IsBytes bytes → IsBytes (drop n bytes)
IsBytes-drop n bytes h i = rw get_or-drop (h (n + i))

pub IsBytes-take : (n : ℕ) (bytes : List ℕ) → IsBytes bytes → IsBytes (take n bytes)
IsBytes-take n bytes h i = elim (cases_lt i n) [
  | inl lt ↦ rw (get_or-take n bytes i 0 lt) (h i)
  | inr le ↦ rw (get_or_past (take n bytes) i 0 (omega (arith, length-take n bytes))) (omega arith)
]

-- the value of a step that read something
pub bind_some : {A B : Type 0} (o : Option A) {f : A → Option B} {y : B} → (o >>= f) ≡ Some y
    → (x : A) × (o ≡ Some x) × (f x ≡ Some y)
bind_some None e = absurd cc
bind_some (Some x) e = (x, refl, e)

-- what is there is there once
pub some_is : {A : Type 0} (x y : A) → Some x ≡ Some y → x ≡ y
some_is x y e = cc

-- a test that let a value through
pub passed : {A : Type 0} {b : Bool} {x y : A} → cond b (Some x) None ≡ Some y → (b ≡ true) × (x ≡ y)
passed e = grind (arith, nat_tests)

-- A reader finds what is spelled at the front, and nothing else.
pub record IsReader {A : Type 0} (read : List ℕ → Option (A × List ℕ)) (spell : A → List ℕ)
    (Fits : A → Type 0) : Type 0 where
  pub takes : (bytes : List ℕ) (x : A) (rest : List ℕ) → IsBytes bytes → read bytes ≡ Some (x, rest)
      → (bytes ≡ spell x ++ rest) × Fits x
  pub again : (x : A) (rest : List ℕ) → Fits x → read (spell x ++ rest) ≡ Some (x, rest)

-- A step that read something, and what is read behind it.
pub record Step {A B : Type 0} (spell : A → List ℕ) (Fits : A → Type 0) (bytes : List ℕ) (next : A × List ℕ → Option B)
    (y : B) : Type 0 where
  pub x : A
  pub rest : List ℕ
  pub parts : bytes ≡ spell x ++ rest
  pub fits : Fits x
  pub bytes_left : IsBytes rest
  pub on : next (x, rest) ≡ Some y

-- what is read behind it is proved of its value and of the bytes that it left
pub step : {A B G : Type 0} {read : List ℕ → Option (A × List ℕ)} {spell : A → List ℕ} {Fits : A → Type 0}
    {next : A × List ℕ → Option B} {y : B} → IsReader read spell Fits → {bytes : List ℕ} → IsBytes bytes
    → (read bytes >>= next) ≡ Some y → (Step spell Fits bytes next y → G) → G
step {spell} reads {bytes} fits e proved =
    let (found, is_read, on) = bind_some _ e in
    let (x, rest) = found in
    let (parts, fit) = reads.takes bytes x rest fits is_read in
    proved (record {
      x = x;
      rest = rest;
      parts = parts;
      fits = fit;
      bytes_left = λ i. rw (← (get_or-append-add (spell x) rest i 0), ← parts) (fits (length (spell x) + i));
      on = on;
    })

-- ---- bytes, numbers and parts

-- a byte is spelled by itself
abbrev pub byte_spelling : ℕ → List ℕ
byte_spelling byte = byte ∷ []

byte_takes : (bytes : List ℕ) {x : ℕ} {rest : List ℕ} → IsBytes bytes → byte_at bytes ≡ Some (x, rest)
    → (bytes ≡ byte_spelling x ++ rest) × (x < 256)
byte_takes [] fits e = absurd cc
byte_takes (byte ∷ bytes) fits e = (grind arith, grind (arith, fits 0))

-- a byte is read as it is spelled
pub byte_reads : IsReader byte_at byte_spelling (λ byte. byte < 256)
byte_reads = record { takes = byte_takes; again = λ x rest lt. refl }

-- a part behind its length is read as it is spelled
part_reads : (size : ℕ) → IsReader (part_at size) (λ x. x) (λ x. length x ≡ size)
part_reads size = record {
  takes = λ bytes x rest fits e. grind (arith, nat_tests, length-take size bytes, take-append-drop size bytes);
  again = λ x rest len.
      let long : ltb (length (x ++ rest)) size ≡ false = le-ltb _ _ (omega (arith, length-append x rest)) in
      rw (long, take_at x rest size len, drop_at x rest size len) refl;
}

-- A width whose numbers are those below the limit.
pub record IsWide (w : Width) (limit : ℕ) : Type 0 where
  pub len : (n : ℕ) → length (to_be_bytes w n) ≡ byte_len w
  pub back : (bytes : List ℕ) → length bytes ≡ byte_len w → IsBytes bytes
      → to_be_bytes w (from_be_bytes w bytes) ≡ bytes
  pub again : (n : ℕ) → n < limit → from_be_bytes w (to_be_bytes w n) ≡ n
  pub below : (bytes : List ℕ) → IsBytes bytes → from_be_bytes w bytes < limit

number_reads : {w : Width} {limit : ℕ} → IsWide w limit → IsReader (number_at w) (to_be_bytes w) (λ n. n < limit)
number_reads {w} wide = record {
  takes = λ bytes n rest fits e.
      let front = take (byte_len w) bytes in
      let front_fits = IsBytes-take (byte_len w) bytes fits in
      let back = λ (len : length front ≡ byte_len w). wide.back front len front_fits in
      grind (
        arith,
        nat_tests,
        back,
        wide.below front front_fits,
        length-take (byte_len w) bytes,
        take-append-drop (byte_len w) bytes,
      );
  again = λ n rest lt.
      let long : ltb (length (to_be_bytes w n ++ rest)) (byte_len w) ≡ false =
      le-ltb _ _ (omega (arith, wide.len n, length-append (to_be_bytes w n) rest)) in
      rw (
        long,
        take_at (to_be_bytes w n) rest (byte_len w) (wide.len n),
        drop_at (to_be_bytes w n) rest (byte_len w) (wide.len n),
        wide.again n lt,
      ) refl;
}

-- a number of two bytes is read as it is spelled
pub u16_reads : IsReader (number_at w16) (to_be_bytes w16) (λ n. n < 2 ^ 16)
u16_reads = number_reads {w = w16} (record {
  len = λ n. refl;
  back = λ bytes len fits. be_bytes_2 bytes _ len fits refl;
  again = from_be_bytes-to_be_bytes_2;
  below = λ bytes fits. omega (arith, fits 0, fits 1);
})

-- a number of four bytes is read as it is spelled
pub u32_reads : IsReader (number_at w32) (to_be_bytes w32) (λ n. n < 2 ^ 32)
u32_reads = number_reads {w = w32} (record {
  len = λ n. refl;
  back = λ bytes len fits. be_bytes_4 bytes _ len fits refl;
  again = from_be_bytes-to_be_bytes_4;
  below = λ bytes fits. omega (arith, fits 0, fits 1, fits 2, fits 3);
})

-- ---- names and texts

name_takes : (bytes x rest : List ℕ) → IsBytes bytes → name_at bytes ≡ Some (x, rest)
    → (bytes ≡ name_spelling x ++ rest) × (is_name x ≡ true)
unfolding name_at
name_takes bytes x rest fits e =
    step byte_reads fits e (λ size. step (part_reads size.x) size.bytes_left size.on (λ name. (
      grind (arith, nat_tests),
      grind (arith, nat_tests),
    )))

-- a good name is read as it is spelled
pub name_reads : IsReader name_at name_spelling (λ name. is_name name ≡ true)
unfolding name_at
name_reads = record {
  takes = name_takes;
  again = λ x rest good. rw ((part_reads (length x)).again x rest refl, good) refl;
}

text_takes : (bytes x rest : List ℕ) → IsBytes bytes → text_at bytes ≡ Some (x, rest)
    → (bytes ≡ text_spelling x ++ rest) × (length x < 2 ^ 32)
unfolding text_at
text_takes bytes x rest fits e = step u32_reads fits e (λ size.
    let text = (part_reads size.x).takes size.rest x rest size.bytes_left size.on in
    (cc (append_assoc (to_be_bytes w32 (length x)) x rest), omega (arith, size.fits, text.1)))

text_again : (x rest : List ℕ) → length x < 2 ^ 32 → text_at (text_spelling x ++ rest) ≡ Some (x, rest)
unfolding text_at
text_again x rest lt = ap text_at (append_assoc (to_be_bytes w32 (length x)) x rest)
    ∙ rw (u32_reads.again (length x) (x ++ rest) lt, (part_reads (length x)).again x rest refl) refl

-- a text is read as it is spelled
pub text_reads : IsReader text_at text_spelling (λ text. length text < 2 ^ 32)
text_reads = record { takes = text_takes; again = text_again }

-- ---- two fields

-- one field behind another
abbrev pub both : {A B C : Type 0} → (List ℕ → Option (A × List ℕ)) → (List ℕ → Option (B × List ℕ)) → (A → B → C)
    → List ℕ → Option (C × List ℕ)
both first second make bytes = first bytes >>= λ a. second a.1 >>= λ b. Some (make a.0 b.0, b.1)

module _ {A B C : Type 0} {read_a : List ℕ → Option (A × List ℕ)} {spell_a : A → List ℕ} {FitsA : A → Type 0}
    {read_b : List ℕ → Option (B × List ℕ)} {spell_b : B → List ℕ} {FitsB : B → Type 0} (make : A → B → C)
    (reads_a : IsReader read_a spell_a FitsA) (reads_b : IsReader read_b spell_b FitsB) where
  -- what was made of two things that were read one behind the other is spelled as they are, behind a front that both
  -- have
  pub both_take : (front : List ℕ) (spell : C → List ℕ) (Fits : C → Type 0)
      → ((a : A) (b : B) → spell (make a b) ≡ front ++ (spell_a a ++ spell_b b))
      → ((a : A) (b : B) → FitsA a → FitsB b → Fits (make a b)) → (bytes : List ℕ) (x : C) (rest : List ℕ)
      → IsBytes bytes → both read_a read_b make bytes ≡ Some (x, rest) → (front ++ bytes ≡ spell x ++ rest) × Fits x
  both_take front spell Fits spelled fit bytes x rest fits e =
      step reads_a fits e (λ a. step reads_b a.bytes_left a.on (λ b.
      let made : make a.x b.x ≡ x = grind arith in
      let left : b.rest ≡ rest = grind arith in (
        cc (
          spelled a.x b.x,
          append_assoc front (spell_a a.x ++ spell_b b.x) rest,
          append_assoc (spell_a a.x) (spell_b b.x) rest,
        ),
        subst Fits made (fit a.x b.x a.fits b.fits),
      )))

  -- two things that are spelled one behind the other are read
  pub both_again : (a : A) (b : B) (rest : List ℕ) → FitsA a → FitsB b
      → both read_a read_b make ((spell_a a ++ spell_b b) ++ rest) ≡ Some (make a b, rest)
  both_again a b rest fits_a fits_b = rw (
    append_assoc (spell_a a) (spell_b b) rest,
    reads_a.again a (spell_b b ++ rest) fits_a,
    reads_b.again b rest fits_b,
  ) refl
