pub mod TellingLemmas
pub mod CourseLemmas
