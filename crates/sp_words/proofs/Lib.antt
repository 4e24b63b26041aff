pub mod Below
pub mod Spelled
pub mod Parser
pub mod Said
pub mod Asked
pub mod Commands
pub mod Requested
pub mod CommandRows
