pub mod Names
pub mod Passes
