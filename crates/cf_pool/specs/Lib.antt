pub mod Pools
pub mod PoolRefs
pub mod PoolFormat
pub mod LookUps
pub mod Known
