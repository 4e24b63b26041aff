pub mod Copies
pub mod Hashes
