pub mod Firsts
pub mod Holes
pub mod Settling
pub mod Falling
pub mod Searching
pub mod Visiting
