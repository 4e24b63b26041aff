pub mod Books
pub mod Entries
pub mod Faults
pub mod Frames
pub mod Lefts
pub mod Logs
pub mod Settings
