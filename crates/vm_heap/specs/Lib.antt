pub mod Tagged
pub mod Words
pub mod Heap
pub mod References
