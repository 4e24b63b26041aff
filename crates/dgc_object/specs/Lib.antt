pub mod AllClients
pub mod OneClient
pub mod Passing
