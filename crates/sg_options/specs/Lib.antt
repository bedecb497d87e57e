pub mod Numbers
pub mod Zones
pub mod Names
pub mod Settings
pub mod Checks
pub mod Values
pub mod Stores
