pub mod Limits
pub mod Driver
pub mod Defaults
