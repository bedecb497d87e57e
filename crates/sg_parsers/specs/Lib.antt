pub mod Names
pub mod Fields
pub mod Csv
pub mod Values
pub mod Pairs
pub mod Parsed
pub mod Laws
