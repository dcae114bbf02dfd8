use Rattle.std.proofs.Common.{◌≡◌, ◌∷◌, [], ℕ, List, length, refl, false}
use Rattle.std.specs.Prelude.{nat_eq}
use Rattle.hex.specs.Hex.{encode_lower}
use Rattle.pos_script.specs.Text.{hex_text}
use Rattle.pos_script.proofs.WriteLemmas.{behind_two, failed_between, failed_front}
use Rattle.pos_script.proofs.print.print_bytes.Goals as goal

-- where there are bytes their text is their hex
some_bytes : (bytes : List ℕ) → false ≡ nat_eq (length bytes) 0 → hex_text bytes ≡ encode_lower bytes
some_bytes [] e = cc
some_bytes (b ∷ bs) e = refl

pub returns-in_err-write_parts : goal.returns-in_err-write_parts
returns-in_err-write_parts g c = failed_front _ _ _ _ c.from_residual.ensures.1 c.in_err-write_parts.ensures

pub returns-in_err-write_hex : goal.returns-in_err-write_hex
returns-in_err-write_hex g c = rw (some_bytes c.args.bytes.now c.if-is_empty.ensures) (failed_between _ _ _ _ _
    c.from_residual-in_err-write_hex.ensures.1 c.in_ok-write_parts.ensures c.in_err-write_hex.ensures)

pub returns : goal.returns
returns g c = rw (some_bytes c.args.bytes.now c.if-is_empty.ensures)
    (behind_two _ _ _ _ _ _ c.in_ok-write_parts.ensures c.in_ok-write_hex.ensures c.write_parts-3.ensures)
