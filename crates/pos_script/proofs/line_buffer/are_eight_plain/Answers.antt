use Rattle.std.proofs.Common.{Bool, List, [], arith, get_or, length, ℕ, ◌&&◌, ◌∷◌, ◌≡◌}
use Rattle.std.proofs.Math.Bool.{and_assoc, and-true}
use Rattle.pos_script.specs.Lines.{is_plain}
use Rattle.pos_script.specs.LineBuffers.{are_plain}
use Rattle.pos_script.proofs.line_buffer.are_eight_plain.Goals as goal

-- whether the byte at a place is plain
abbrev plain_at : List ℕ → ℕ → Bool
plain_at bytes i = is_plain (get_or bytes i 0)

plain_eight : (bytes : List ℕ) → length bytes ≡ 8
    → (((((((plain_at bytes 0 && plain_at bytes 1) && plain_at bytes 2) && plain_at bytes 3) && plain_at bytes 4)
    && plain_at bytes 5) && plain_at bytes 6) && plain_at bytes 7) ≡ are_plain bytes
plain_eight (a ∷ b ∷ c ∷ d ∷ e ∷ f ∷ g ∷ h ∷ []) long = simp (and_assoc, and-true)
plain_eight _ long = absurd (omega (arith, long))

pub returns : goal.returns
returns c = rw (
  c.is_plain_byte.ensures,
  c.is_plain_byte-2.ensures,
  c.is_plain_byte-3.ensures,
  c.is_plain_byte-4.ensures,
  c.is_plain_byte-5.ensures,
  c.is_plain_byte-6.ensures,
  c.is_plain_byte-7.ensures,
  c.is_plain_byte-8.ensures,
) (plain_eight c.args.bytes.now c.requires)
