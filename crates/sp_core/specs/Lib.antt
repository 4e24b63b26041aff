pub mod Cores
pub mod Hands
pub mod Roots
pub mod Shown
