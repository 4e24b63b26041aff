pub mod Clients
pub mod Forms
pub mod History
pub mod Objects
pub mod Remembered
