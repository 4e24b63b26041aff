mod Rows
mod Calls
