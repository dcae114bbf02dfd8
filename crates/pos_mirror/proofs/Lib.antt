pub mod ContinuationLemmas
mod CallLemmas
mod MirrorLemmas
mod StepLemmas
