pub mod Values
pub mod Texts
pub mod Rewritten
pub mod Changes
pub mod Ops
