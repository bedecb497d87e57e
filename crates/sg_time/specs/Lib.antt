pub mod Stamp
pub mod Local
pub mod Text
pub mod Reading
