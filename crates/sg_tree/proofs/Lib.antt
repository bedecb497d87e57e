pub mod Going
pub mod Views
pub mod Turning
pub mod Keeping
pub mod Bounding
pub mod Lines
