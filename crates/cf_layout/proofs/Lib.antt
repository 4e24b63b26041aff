pub mod Blamed
pub mod BodyParts
pub mod Skims
pub mod FileLaws
pub mod CodeLaws
