pub mod Reading
pub mod Compiling
pub mod Loading
pub mod Completeness
