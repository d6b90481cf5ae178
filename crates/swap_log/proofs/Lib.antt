pub mod Positions
pub mod Arrays
pub mod Made
pub mod Founds
