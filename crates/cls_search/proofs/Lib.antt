pub mod Found
pub mod Heights
pub mod Interfaces
pub mod Marked
pub mod Named
