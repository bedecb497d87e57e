pub mod Packed
pub mod Frame
pub mod Shape
