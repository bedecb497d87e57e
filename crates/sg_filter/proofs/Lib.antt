pub mod Equations
pub mod Tables
pub mod Turning
pub mod Cases
pub mod Truths
pub mod Tagged
pub mod Sent
