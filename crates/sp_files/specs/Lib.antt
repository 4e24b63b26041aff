pub mod Files
pub mod Programs
pub mod Names
pub mod Only
