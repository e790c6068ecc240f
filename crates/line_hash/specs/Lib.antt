pub mod Hash
pub mod Reciprocal
pub mod Rows
