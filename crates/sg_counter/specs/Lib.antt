pub mod Bringing
pub mod Exchanges
