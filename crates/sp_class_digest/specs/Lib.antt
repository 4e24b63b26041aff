pub mod ClassDigests
