use Rattle.kijolvar.proofs.OrderLemmas.{asks_twin}
use Rattle.kijolvar.proofs.order_queue.OrderSender.ask.Goals as goal

pub returns-then-not-is_hosted : goal.returns-then-not-is_hosted
returns-then-not-is_hosted c = asks_twin _ _ _ _ c.ask.ensures.asked c.ask.ensures.keeps c.ask.ensures.settles
