pub mod Loops
pub mod ParameterSteps
pub mod Verdicts
pub mod FormatLaws
pub mod LookLaws
pub mod DescriptorLaws
pub mod Spans
pub mod Indexed
mod Parts
