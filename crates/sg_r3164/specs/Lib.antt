pub mod Options
pub mod Parts
pub mod Places
pub mod Read3164
