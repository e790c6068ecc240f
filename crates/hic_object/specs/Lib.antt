pub mod Parts
pub mod Spelled
pub mod Reading
pub mod Rows
