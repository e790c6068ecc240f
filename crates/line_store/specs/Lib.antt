pub mod Entries
pub mod Index
pub mod Search
pub mod Filed
pub mod Stored
pub mod Bound
pub mod Taking
pub mod StoredSound
