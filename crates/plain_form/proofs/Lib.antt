pub mod Room
pub mod Unfolded
pub mod Visits
