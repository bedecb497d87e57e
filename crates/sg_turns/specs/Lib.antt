pub mod Turns
pub mod Actors
pub mod Rounds
pub mod Serving
pub mod Laws
pub mod Failing
