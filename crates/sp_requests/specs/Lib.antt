pub mod Asking
pub mod Peers
pub mod Ends
pub mod Tables
pub mod AllAsked
pub mod ClassSets
pub mod Thrown
