pub mod Walks
pub mod FieldLemmas
pub mod ValueLemmas
pub mod PairLemmas
pub mod Sent
pub mod Written
pub mod RunLemmas
