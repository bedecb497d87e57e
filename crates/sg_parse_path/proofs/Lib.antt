pub mod Fronts
pub mod ReferenceLaws
pub mod PathLaws
