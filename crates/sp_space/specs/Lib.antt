pub mod Machines
pub mod Spaces
pub mod Events
pub mod Hands
