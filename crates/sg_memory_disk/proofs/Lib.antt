pub mod Changes
pub mod Picking
pub mod NamedStores
pub mod Every
