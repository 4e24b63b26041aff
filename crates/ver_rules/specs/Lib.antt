pub mod FaultNames
pub mod Wants
