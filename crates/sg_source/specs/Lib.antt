pub mod Sources
pub mod Inlets
