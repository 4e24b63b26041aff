pub mod Frames
pub mod Notes
pub mod Ranks
pub mod Said
