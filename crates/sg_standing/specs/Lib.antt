pub mod States
pub mod Sources
pub mod Standing
pub mod Images
