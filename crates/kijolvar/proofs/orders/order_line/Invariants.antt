use Rattle.kijolvar.proofs.Common.{Argument, Option, filter_map, order_text, with_arguments, ◌≡◌}
use Rattle.std.proofs.Common.{drop}
use Rattle.kijolvar.proofs.orders.order_line.Given as goal

-- the line with the arguments that are left is the whole
abbrev pub invariant-loop-argument : goal.invariant-loop-argument
invariant-loop-argument l = with_arguments l.line.items (filter_map (λ (given : Option Argument). given)
    (drop l.argument-index l.argument-items)) ≡ order_text l.device l.order
