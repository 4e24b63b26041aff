pub mod DeadlinesLemmas
pub mod TouchedLemmas
