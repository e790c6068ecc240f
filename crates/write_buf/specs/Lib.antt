pub mod WordPairs
pub mod Places
pub mod Rows
