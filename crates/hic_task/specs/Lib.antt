pub mod Kept
pub mod Acting
pub mod Ends
pub mod Inputs
pub mod Looks
pub mod Numbered
pub mod Commits
pub mod OnNumbers
