pub mod Passing
pub mod Ends
pub mod Needs
