use Rattle.std.proofs.Common.{take, flat_map}
use Rattle.pos_streams.specs.Streams.{Appends}
use Rattle.pos_script.proofs.write.write_parts.Given as goal

abbrev pub invariant-loop-part : goal.invariant-loop-part
invariant-loop-part g l = Appends (g.W.Sink.given l.initial.writer) (g.W.Sink.given l.writer)
    (flat_map (λ part. part.now) (take l.part-index l.parts))
