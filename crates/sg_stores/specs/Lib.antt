pub mod Stores
pub mod Positions
pub mod Appending
pub mod Advancing
pub mod Reading
pub mod Opening
pub mod Looking
