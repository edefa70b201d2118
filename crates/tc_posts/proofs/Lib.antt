mod PostLemmas
mod ToldLemmas
mod CompletingLemmas
mod SendLemmas
