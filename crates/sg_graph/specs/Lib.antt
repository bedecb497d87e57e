pub mod Graph
pub mod Sizes
pub mod Visits
