pub mod Flags
pub mod References
pub mod Paths
pub mod Grammar
pub mod Answers
