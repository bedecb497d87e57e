pub mod StoreLemmas
pub mod StageLemmas
pub mod CommitLemmas
pub mod AdvanceLemmas
pub mod ReadLemmas
pub mod LookLemmas
pub mod GetLemmas
pub mod OpenLemmas
