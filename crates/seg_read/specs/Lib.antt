pub mod Levels
pub mod Founds
pub mod Rows
