pub mod Refused
pub mod Contents
pub mod Replied
