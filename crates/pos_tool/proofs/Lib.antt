mod CopyLemmas
mod NameLemmas
mod ParseLemmas
