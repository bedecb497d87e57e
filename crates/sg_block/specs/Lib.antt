pub mod Tokens
pub mod Names
pub mod Brackets
pub mod Trimmed
pub mod Parts
pub mod Arguments
pub mod Forms
pub mod Values
