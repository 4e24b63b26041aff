pub mod DueCalls
pub mod Groups
pub mod History
pub mod Kept
pub mod Lease
pub mod Table
pub mod Touched
