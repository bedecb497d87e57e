pub mod Entering
pub mod Equations
pub mod Collecting
pub mod Placing
pub mod Ones
