pub mod Listener
pub mod Slot
pub mod Outlet
