pub mod Said
pub mod Transports
pub mod Rooms
pub mod Asking
pub mod Opening
pub mod Answers
pub mod Settling
