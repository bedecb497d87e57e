pub mod Answering
pub mod Batches
pub mod Laws
pub mod Payloads
pub mod Rooms
