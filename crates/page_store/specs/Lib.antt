pub mod Refusals
pub mod Stores
pub mod Memory
pub mod Tallies
pub mod Calls
pub mod Moves
pub mod Laws
