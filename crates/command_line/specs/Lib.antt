pub mod Limits
pub mod Number
pub mod Asked
pub mod Commands
pub mod Request
pub mod Seen
pub mod Rows
