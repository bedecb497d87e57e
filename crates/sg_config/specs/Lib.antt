pub mod Readings
pub mod Means
pub mod Alike
