pub mod Links
pub mod Names
pub mod Rows
pub mod Sets
pub mod Switches
