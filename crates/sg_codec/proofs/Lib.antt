mod FieldLaws
mod StampLaws
mod PairLemmas
mod TagLemmas
mod ListLaws
mod EntryLaws
mod ReadSteps
pub mod WriteLemmas
