pub mod Refusals
pub mod Rows
pub mod Meaning
pub mod Choices
pub mod Promise
pub mod Funding
pub mod Lru
pub mod Worked
