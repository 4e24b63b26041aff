pub mod Descriptors
pub mod MemberKeys
