pub mod Limits
pub mod Players
pub mod Coming
