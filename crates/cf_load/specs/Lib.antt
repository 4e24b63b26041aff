pub mod Loads
pub mod FaultNames
