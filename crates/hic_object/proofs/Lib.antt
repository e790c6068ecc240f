pub mod Loop
pub mod Readers
pub mod Fields
pub mod Items
pub mod Steps
pub mod Whole
pub mod Faults
pub mod Written
