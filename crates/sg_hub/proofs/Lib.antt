pub mod Tellings
pub mod Seated
pub mod Crosses
pub mod CountLemmas
