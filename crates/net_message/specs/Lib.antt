pub mod Wire
pub mod Sizes
pub mod Frame
pub mod FaultNames
