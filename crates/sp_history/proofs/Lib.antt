pub mod BookLemmas
pub mod CutLemmas
pub mod EntryLemmas
pub mod FrameLemmas
