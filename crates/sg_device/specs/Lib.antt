pub mod Faults
pub mod Inlet
pub mod Frames
pub mod Outlet
pub mod Paths
pub mod DiskBytes
pub mod Disk
