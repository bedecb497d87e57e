pub mod Texts
pub mod ByPath
pub mod Tracks
pub mod Sending
pub mod View
