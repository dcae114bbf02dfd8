use Rattle.std.proofs.Common.{◌∙◌, ◌∷◌, [], ap}
use Rattle.std.proofs.lemmas.List.{take_all}
use Rattle.hex.specs.Hex.{encode_lower}
use Rattle.pos_script.proofs.WriteLemmas.{failed_part, hex_of_glyphs}
use Rattle.pos_script.proofs.glyphs.write_characters.Goals as goal

pub returns-in_err-write_hex : goal.returns-in_err-write_hex
returns-in_err-write_hex g c =
    let character = g.G.Glyph.character in
    rw (← hex_of_glyphs character c.args.glyphs.now) (failed_part _ _ _ _ (λ glyph. encode_lower (character glyph ∷ []))
    c.args.glyphs.now _ _ c.from_residual.ensures.1 c.loop-glyph-test.true (ap (λ n. encode_lower (n ∷ []))
    (c.character.ensures ∙ ap character c.glyph-item.is)) c.loop-glyph.invariant c.in_err-write_hex.ensures)

pub returns : goal.returns
returns g c = rw (
  take_all c.loop-glyph.glyph-index c.args.glyphs.now c.loop-glyph-test.false,
  hex_of_glyphs g.G.Glyph.character,
) at c.loop-glyph.invariant
