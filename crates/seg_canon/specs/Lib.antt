pub mod Filled
pub mod Folds
pub mod Parts
pub mod Opens
pub mod Laws
pub mod Raises
