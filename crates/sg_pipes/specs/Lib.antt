pub mod Messages
pub mod Pipes
pub mod Frames
pub mod Turns
pub mod Chosen
pub mod Within
pub mod Named
