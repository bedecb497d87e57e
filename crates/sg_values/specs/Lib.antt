pub mod Ranges
pub mod Settings
pub mod Patterns
pub mod Calls
pub mod Expressions
pub mod Conditions
pub mod Parsers
pub mod Texts
