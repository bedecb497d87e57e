pub mod Places
pub mod Templates
pub mod Drivers
pub mod Ends
pub mod Globals
pub mod First
pub mod Options
