pub mod EntryLemmas
pub mod WalkLemmas
pub mod ListLemmas
pub mod SalvageLemmas
