pub mod Values
pub mod Ranges
pub mod Patterns
pub mod Filters
pub mod Expressions
pub mod Rewrites
pub mod Parsers
