use Rattle.std.proofs.Common.{ap, arith, take, drop, ◌∙◌, ◌+◌, ◌-◌}
use Rattle.pos_report.specs.Texts.{are_zero}
unfoldable use Rattle.pos_report.specs.Salvage.{is_unused}
use Rattle.pos_report.proofs.salvage.is_unused.Goals as goal

pub returns : goal.returns
unfolding is_unused
returns c = c.are_zero.ensures ∙ ap (λ count. are_zero (take count (drop (c.args.at + 1) c.args.bytes.now)))
    {x = c.args.at + 9 - (c.args.at + 1)} {y = 8} (omega arith)
