pub mod Folds
pub mod Unsigned
