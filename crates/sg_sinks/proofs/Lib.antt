pub mod JudgeLemmas
pub mod LeftLemmas
pub mod MoveSteps
pub mod OfferSteps
pub mod RunLemmas
pub mod SettleSteps
pub mod SpaceLemmas
pub mod TrialSteps
