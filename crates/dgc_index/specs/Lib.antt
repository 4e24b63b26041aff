pub mod Deadlines
pub mod Plans
pub mod Touched
