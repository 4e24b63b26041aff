pub mod Lists
pub mod Fits
pub mod Declared
pub mod Called
pub mod Given
pub mod Selected
pub mod Standing
pub mod Told
