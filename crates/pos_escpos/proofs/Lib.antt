mod OrderLemmas
mod PrinterLemmas
mod DisplayLemmas
mod InputLemmas
mod LossLemmas
mod ProgressLemmas
mod ReplyLemmas
