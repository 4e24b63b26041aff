pub mod DialLemmas
pub mod PipeLemmas
