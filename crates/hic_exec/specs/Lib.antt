pub mod Value
pub mod Outcome
