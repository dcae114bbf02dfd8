use Rattle.std.proofs.Common.{arith, take}
use Rattle.pos_service.specs.Displays.{text_from}
use Rattle.pos_service.proofs.StripLemmas.{text_more}
use Rattle.pos_service.proofs.display_text.place_after.Goals as goal

pub loop-byte-preserved : goal.loop-byte-preserved
loop-byte-preserved c =
    let so_far = text_from c.args.columns c.args.start (take c.loop-byte.byte-index c.args.bytes.now) in
    grind (
      arith,
      c.place_after_byte-place.ensures.follows so_far,
      text_more c.args.columns c.args.start c.args.bytes.now c.loop-byte.byte-index,
    )
