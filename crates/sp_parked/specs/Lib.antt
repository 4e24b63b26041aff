pub mod ByConnections
pub mod ByReferences
pub mod Parkings
