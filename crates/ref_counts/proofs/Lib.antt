pub mod Taken
pub mod GivenUp
pub mod Kept
pub mod Linked
