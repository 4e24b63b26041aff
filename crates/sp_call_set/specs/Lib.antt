pub mod Calls
pub mod Named
pub mod Selecting
pub mod Tables
