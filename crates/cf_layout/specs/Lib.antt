pub mod Layouts
pub mod FileFormat
pub mod CodeFormat
pub mod Codes
pub mod ReadInsides
pub mod CodeLengths
