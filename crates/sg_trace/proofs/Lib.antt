pub mod Times
pub mod Readings
pub mod Takings
pub mod Tracings
pub mod Wholes
mod Finding
mod Sending
mod Pathing
mod Completing
