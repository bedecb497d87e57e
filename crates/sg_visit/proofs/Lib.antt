pub mod Equations
pub mod Visiting
pub mod Leasts
