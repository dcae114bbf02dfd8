use Rattle.std.proofs.Common.{take, flat_map, ◌∷◌, []}
use Rattle.pos_streams.specs.Streams.{Appends}
use Rattle.hex.specs.Hex.{encode_lower}
use Rattle.pos_script.proofs.glyphs.write_characters.Given as goal

abbrev pub invariant-loop-glyph : goal.invariant-loop-glyph
invariant-loop-glyph g l = Appends (g.W.Sink.given l.initial.writer) (g.W.Sink.given l.writer)
    (flat_map (λ glyph. encode_lower (g.G.Glyph.character glyph ∷ [])) (take l.glyph-index l.glyphs))
