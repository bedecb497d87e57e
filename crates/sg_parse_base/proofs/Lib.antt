pub mod Keywords
pub mod Turns
mod CommaSteps
pub mod ListSteps
pub mod Spots
pub mod Steps
pub mod ListLaws
mod SkipSteps
pub mod SkipLaws
pub mod ChainLaws
