pub mod Report
pub mod Sums
pub mod Fault
pub mod Entry
pub mod Store
