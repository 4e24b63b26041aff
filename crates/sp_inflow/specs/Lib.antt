pub mod Arriving
pub mod Telling
