pub mod Crews
pub mod Workers
pub mod Rooms
pub mod Pools
pub mod Looks
