pub mod FieldSearches
pub mod MethodSearches
pub mod Searches
