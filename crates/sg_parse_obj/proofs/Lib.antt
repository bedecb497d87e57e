pub mod Apart
mod Texts
pub mod DriverLaws
pub mod ObjectLaws
pub mod Places
pub mod ParserLaws
