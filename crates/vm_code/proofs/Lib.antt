pub mod Subtypes
pub mod Selections
pub mod Slots
pub mod HeldKinds
pub mod Remotes
