mod RunLemmas
mod LogLemmas
mod CopyLemmas
mod MixLemmas
mod TryLemmas
