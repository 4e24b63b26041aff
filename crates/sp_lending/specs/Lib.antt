pub mod Rows
pub mod Hands
pub mod Spaces
pub mod Works
