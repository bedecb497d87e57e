pub mod Begins
pub mod Names
pub mod Zone
pub mod Texts
pub mod Elements
pub mod Render
pub mod Path
pub mod Own
