pub mod Numbers
pub mod Days
pub mod Texts
pub mod Fractions
pub mod Readings
pub mod Dates
