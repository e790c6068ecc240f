pub mod Digits
pub mod Tasks
pub mod Entries
pub mod RowLaws
pub mod Reading
pub mod Schedules
