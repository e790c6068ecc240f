pub mod ChangeList
pub mod Differing
pub mod DifferLooks
pub mod Withins
pub mod Rows
