pub mod Answered
pub mod Forgotten
pub mod Happenings
pub mod Residents
pub mod Steps
pub mod Waitings
