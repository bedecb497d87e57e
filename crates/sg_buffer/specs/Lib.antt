pub mod Entries
pub mod First
pub mod Formats
pub mod Found
pub mod Heads
pub mod Renewing
