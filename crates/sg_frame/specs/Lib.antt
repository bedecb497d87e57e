pub mod Framing
pub mod Items
pub mod Kept
pub mod Records
pub mod Scans
pub mod Timely
