pub mod ResultLemmas
pub mod EndLemmas
pub mod PlayedLemmas
pub mod GoingLemmas
pub mod BeginLemmas
