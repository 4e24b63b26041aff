pub mod Rules
pub mod Profile
pub mod Checks
pub mod MemberNames
pub mod Builds
pub mod Says
pub mod Spells
pub mod WellFormed
