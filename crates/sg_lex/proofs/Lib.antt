pub mod Firsts
pub mod Strings
pub mod Words
pub mod Steps
