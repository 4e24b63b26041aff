pub mod AnyLemmas
pub mod PlaceLemmas
