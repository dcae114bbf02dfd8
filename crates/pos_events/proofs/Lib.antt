pub mod Common
pub mod ImmediateLemmas
pub mod EnqueueLemmas
pub mod DataCountLemmas
pub mod ClearLemmas
pub mod DeliveryLemmas
pub mod DeliverableLemmas
