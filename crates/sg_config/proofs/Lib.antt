mod Lengths
mod Ruling
mod Faults
mod Meanings
