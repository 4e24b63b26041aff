pub mod Behaviours
pub mod Lent
pub mod Recorded
pub mod Records
pub mod Rows
pub mod Same
pub mod Tables
