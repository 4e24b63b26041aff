mod BeginLemmas
mod MachineLemmas
