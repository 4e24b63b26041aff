pub mod Frames
pub mod Layout
