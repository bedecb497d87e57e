pub mod Tokens
pub mod Input
pub mod Lists
pub mod Skipping
pub mod Grammar
pub mod Laws
