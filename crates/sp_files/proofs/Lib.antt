pub mod Spelled
pub mod Named
pub mod Only
