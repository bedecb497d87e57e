pub mod ByPath
pub mod Templates
pub mod Buffers
pub mod Destinations
pub mod Outlets
