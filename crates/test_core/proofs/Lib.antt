pub mod Lengths
pub mod TestLemmas
