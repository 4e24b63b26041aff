pub mod Spaces
pub mod Receiving
pub mod Sweeping
pub mod Denying
pub mod LetIn
pub mod Hellos
pub mod Hands
