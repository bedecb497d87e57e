pub mod Appending
pub mod Hard
pub mod Inner
pub mod Paths
pub mod Runs
pub mod Steps
mod Constants
