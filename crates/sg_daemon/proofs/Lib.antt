pub mod SaidLemmas
pub mod CheckedLemmas
pub mod CheckLemmas
pub mod TraceLemmas
pub mod OfflineLemmas
