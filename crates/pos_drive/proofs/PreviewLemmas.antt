-- What was foretold of an order that is done.
use Rattle.std.proofs.Common.{◌≡◌, MatchResult, Ok, Result, subst, sym}
use Rattle.pos_service.specs.declared.faults.NoMemory.{NoMemory}
use Rattle.pos_service.specs.declared.order.Order.{Order}
use Rattle.pos_service.specs.declared.order.Reply.{Reply}
use Rattle.pos_service.specs.declared.order.Reply.TheVariants as reply
use Rattle.pos_service.specs.Peripherals.{Asked, IsUntouched, PeripheralState, Replies}
use Rattle.pos_drive.specs.Previews.{Foretells}

-- an order that is done was foretold to be
pub done_foretold : (old new : PeripheralState) (asked : Order) (outcome : Result Reply NoMemory) (foretold : Reply)
    → Asked old asked outcome new → Foretells old.plant asked foretold → outcome ≡ Ok reply.Done → foretold ≡ reply.Done
done_foretold old new asked outcome foretold did foretells is =
    let answer =
    subst (λ r. MatchResult r (λ said. Replies old asked said new) (λ want. IsUntouched old new)) is did.answer in
    sym (foretells reply.Done new.plant answer.0)
