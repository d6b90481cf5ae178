pub mod Zeros
pub mod Layer
pub mod Limits
pub mod Meaning
