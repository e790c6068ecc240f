pub mod Iters
pub mod Rows
