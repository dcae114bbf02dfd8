use Rattle.kijolvar.proofs.Common.{Argument, List, Option, arith, filter_map, with_arguments, ℕ}
use Rattle.std.proofs.lemmas.List.{at_drop_more, drop_all}
use Rattle.kijolvar.proofs.orders.order_line.Goals.{in-Some+in_ok-add_argument, in_default}
use Rattle.kijolvar.proofs.orders.order_line.Goals as goal

pub loop-argument-init : goal.loop-argument-init
loop-argument-init c = grind arith

pub loop-argument-preserved : goal.loop-argument-preserved
loop-argument-preserved c =
    let rest = λ (line : List ℕ) (left : List (Option Argument)). with_arguments line
    (filter_map (λ (given : Option Argument). given) left) in
    let step =
    at_drop_more (rest c.loop-argument.line.items) c.arguments-arguments.result c.loop-argument.argument-index
    c.argument-item.result (omega (arith, c.type_inv.argument-items, c.loop-argument-test.true)) in
    elim c.match-argument.branch [
      | in-Some+in_ok-add_argument w ↦ grind (arith, step, c.loop-argument.invariant, c.argument-item.is, w)
      | in_default w ↦ grind (arith, step, c.loop-argument.invariant, c.argument-item.is, w)
    ]

pub returns : goal.returns
returns c = grind (arith, drop_all c.loop-argument.argument-index c.arguments-arguments.result)
