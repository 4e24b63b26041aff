pub mod ClassChecks
pub mod MemberChecks
pub mod Packages
pub mod Standing
pub mod Unique
pub mod UseChecks
pub mod Used
pub mod Knowing
