pub mod Choices
pub mod Kinds
pub mod Numbers
pub mod Slots
pub mod Trees
pub mod Remote
pub mod Rows
