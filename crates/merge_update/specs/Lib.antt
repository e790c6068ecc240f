pub mod Updates
pub mod Joins
pub mod Ready
