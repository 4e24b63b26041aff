mod LateLemmas
mod RunLemmas
