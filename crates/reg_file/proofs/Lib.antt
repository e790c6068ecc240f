pub mod Swapped
pub mod Zeros
pub mod Registers
pub mod Others
