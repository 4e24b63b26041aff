pub mod Files
pub mod Worlds
pub mod Rows
pub mod Steps
pub mod Stops
pub mod Sound
