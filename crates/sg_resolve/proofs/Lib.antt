pub mod Counting
pub mod OneDriver
pub mod Looked
