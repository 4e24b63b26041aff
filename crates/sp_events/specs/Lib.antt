pub mod Events
pub mod FaultNames
