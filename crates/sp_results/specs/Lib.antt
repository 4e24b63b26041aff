pub mod Waiting
pub mod Ended
pub mod Held
pub mod Numbers
