pub mod Within
pub mod Turns
pub mod Firsts
pub mod Ratios
pub mod Ranks
