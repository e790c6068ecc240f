pub mod Limits
pub mod Messages
pub mod Asked
pub mod Outcome
pub mod Running
pub mod Summary
