pub mod Instances
pub mod Stores
