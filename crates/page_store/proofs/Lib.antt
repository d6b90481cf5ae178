pub mod Pages
pub mod Counts
pub mod Pigeons
pub mod Slots
pub mod Lawful
