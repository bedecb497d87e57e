pub mod Owners
pub mod Globals
pub mod Owned
pub mod Reading
pub mod Parts
pub mod Plans
pub mod Limits
