use Rattle.std.proofs.Common.{◌∙◌, ap}
use Rattle.std.specs.Prelude.{decimal}
use Rattle.pos_script.proofs.WriteLemmas.{failed_part}
use Rattle.pos_script.proofs.glyphs.write_looks.Goals as goal

pub returns-in_err-write_bytes : goal.returns-in_err-write_bytes
returns-in_err-write_bytes g c =
    failed_part _ _ _ _ _ c.args.glyphs.now _ _ c.from_residual.ensures.1 c.loop-glyph-test.true
    (c.as_bytes.ensures.value ∙ c.format.ensures.text ∙ ap decimal (c.look.ensures ∙ ap g.G.Glyph.look c.glyph-item.is))
    c.loop-glyph.invariant c.in_err-write_bytes.ensures
