use Rattle.std.proofs.Common.{◌≡◌, All, List, rules, subst, sym}
use Rattle.std.specs.List.{AllByRecursion}
use Rattle.std.proofs.lemmas.List.Elements.{All-from_recursion}
use Rattle.pos_sims.specs.contracts.plain_drawer.PlainDrawerPeripheral.TheImpl.{ghosts}
use Rattle.pos_counter.specs.Responses.{OffersInService}
use Rattle.pos_counter_tests.proofs.growths.requests.Goals as goal

-- what holds of each of a list's elements holds of them in a list that is the same
all_same : {X : Type 0} (P : X → Type 0) (xs ys : List X) → ys ≡ xs → AllByRecursion P xs → All P ys
all_same P xs ys same each = subst (λ zs. All P zs) (sym same) (All-from_recursion P xs each)

pub returns-in-Ok : goal.returns-in-Ok
returns-in-Ok c = all_same (OffersInService ghosts) _ _ c.in-Ok.ensures.items (search rules)
