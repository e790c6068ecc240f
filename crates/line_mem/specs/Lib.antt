pub mod Sound
pub mod Places
pub mod PlacesSound
pub mod Opening
pub mod Looks
