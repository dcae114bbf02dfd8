mod ConversationLemmas
mod CutLemmas
mod RunLemmas
mod TextLemmas
mod TrialLemmas
mod XmlLemmas
