pub mod Cuts
pub mod Walks
pub mod Found
pub mod Sent
pub mod Unpicked
