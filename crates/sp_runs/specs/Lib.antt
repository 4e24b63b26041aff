pub mod Outcomes
pub mod OverReplies
pub mod InSpace
pub mod Runs
pub mod Only
pub mod Going
pub mod OfProgram
