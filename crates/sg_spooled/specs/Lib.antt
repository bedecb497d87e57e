pub mod Entries
pub mod Walking
pub mod Listing
