pub mod Tables
pub mod Drivers
pub mod Templates
pub mod Parsers
pub mod Objects
pub mod Grammar
pub mod Answers
