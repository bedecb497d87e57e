pub mod Macros
pub mod Reading
