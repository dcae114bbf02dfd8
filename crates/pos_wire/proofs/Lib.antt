mod FrameLemmas
mod OrderLemmas
mod ReplyLemmas
