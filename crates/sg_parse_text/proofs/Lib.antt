pub mod Standing
pub mod TextLaws
pub mod Reading
