pub mod Lending
pub mod Lists
