pub mod Parts
pub mod Disks
pub mod DiskCalls
pub mod FrameLemmas
pub mod FrameParts
pub mod Inlets
pub mod PathLemmas
