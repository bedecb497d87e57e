pub mod TurnLemmas
pub mod PartLemmas
pub mod RoundLemmas
pub mod ActorLemmas
pub mod LawLemmas
pub mod CreditLemmas
pub mod FailingLemmas
pub mod BoundLemmas
