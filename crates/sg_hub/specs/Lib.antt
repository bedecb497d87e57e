pub mod Offices
pub mod Histories
pub mod Seats
pub mod Counts
pub mod Laws
