pub mod Loads
mod Refusing
pub mod Complete
