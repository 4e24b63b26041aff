pub mod Bindings
pub mod Counts
pub use Rattle.registry_names.specs.Names
pub mod FaultNames
pub mod Tables
