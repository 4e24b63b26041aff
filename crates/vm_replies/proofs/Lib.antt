pub mod Types
pub mod Fitting
