use Rattle.std.proofs.Common.{take}
use Rattle.pos_streams.specs.Streams.{Appends}
use Rattle.pos_script.specs.Glyphs.{looks_text}
use Rattle.pos_script.proofs.glyphs.write_looks.Given as goal

abbrev pub invariant-loop-glyph : goal.invariant-loop-glyph
invariant-loop-glyph g l = Appends (g.W.Sink.given l.initial.writer) (g.W.Sink.given l.writer)
    (looks_text g.G.Glyph.look (take l.glyph-index l.glyphs))
