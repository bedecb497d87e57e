pub mod Firsts
pub mod Lengths
pub mod Renewed
pub mod Stored
pub mod Upgrades
pub mod Walked
