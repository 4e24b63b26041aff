pub mod Folders
pub mod Replies
