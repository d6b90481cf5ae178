pub mod Bytes
pub mod Layers
