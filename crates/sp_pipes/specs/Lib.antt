pub mod Asked
pub mod Connections
