pub mod Agreeing
pub mod Grown
