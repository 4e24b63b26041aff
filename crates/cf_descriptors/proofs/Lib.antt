pub mod DescriptorsKept
pub mod MemberKeyLaws
