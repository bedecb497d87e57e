pub mod Written
pub mod References
pub mod Steps
pub mod Patterns
pub mod Statements
pub mod Adds
pub mod Forests
pub mod Kept
