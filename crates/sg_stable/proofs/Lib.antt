pub mod Cells
pub mod Putting
pub mod Positions
pub mod Looking
