pub mod Runs
pub mod StampsOnce
pub mod Readings
mod Wholes
