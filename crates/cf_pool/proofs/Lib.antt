pub mod Cells
pub mod PoolLaws
pub mod LookUpLaws
pub mod PoolOrder
mod Known
