use Rattle.std.specs.Prelude.{[]}
use Rattle.pos_service.specs.declared.category.Category.TheVariants as category
use Rattle.pos_common.proofs.KeptLemmas.{given_at}
use Rattle.pos_common.proofs.OwnCallLemmas.{done_call, done_orders, refused_call, refused_orders}
use Rattle.pos_drawer.specs.DrawerCalls.{drawer_action}
use Rattle.pos_drawer.proofs.calls.call.Goals as goal

pub returns-in-Ok-clause-called : goal.returns-in-Ok-clause-called
returns-in-Ok-clause-called g c = done_call category.CashDrawer c.args.caller c.args.claims.now c.args.call.now _ _
    (λ control. []) (λ control. drawer_action c.args.call.now)
    (given_at c.args.controls.now c.args.caller c.index-controls-caller.result c.requires.caller) _ _ _ _ _ _
    c.in-Ok.ensures.0 (c.in-Ok.ensures.2 []) c.plan.ensures.action c.plan.ensures.wants c.execute.ensures.done

pub returns-in-Ok-clause-orders : goal.returns-in-Ok-clause-orders
returns-in-Ok-clause-orders g c = done_orders category.CashDrawer c.args.caller c.args.claims.now c.args.call.now _ _
    (λ control. []) (λ control. drawer_action c.args.call.now)
    (given_at c.args.controls.now c.args.caller c.index-controls-caller.result c.requires.caller) _ _ _ _
    (c.in-Ok.ensures.2 []) c.plan.ensures.action c.execute.ensures.orders

pub returns-in-Err-clause-called : goal.returns-in-Err-clause-called
returns-in-Err-clause-called g c = refused_call category.CashDrawer c.args.caller c.args.claims.now c.args.call.now _ _
    (λ control. []) (λ control. drawer_action c.args.call.now)
    (given_at c.args.controls.now c.args.caller c.index-controls-caller.result c.requires.caller) _ _
    (c.in-Err.ensures [])

pub returns-in-Err-clause-orders : goal.returns-in-Err-clause-orders
returns-in-Err-clause-orders g c = refused_orders category.CashDrawer c.args.caller c.args.claims.now c.args.call.now _
    _ (λ control. []) (λ control. drawer_action c.args.call.now)
    (given_at c.args.controls.now c.args.caller c.index-controls-caller.result c.requires.caller) _
    (g.P.Peripheral.state c.args.drawer.now).orders (c.in-Err.ensures [])
