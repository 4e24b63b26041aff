pub mod FaultNames
pub mod Fields
pub mod LinkFaults
pub mod LinkedForms
pub mod Links
pub mod Numbers
pub mod Selections
pub mod Targets
