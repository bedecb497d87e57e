pub mod RunLemmas
pub mod PrintedRuns
pub mod NameLemmas
pub mod ValueLemmas
pub mod HeaderLemmas
pub mod ParamLemmas
pub mod ElementLemmas
pub mod ReadingLemmas
pub mod StampLemmas
pub mod RecordEnds
pub mod NamedValues
pub mod WrittenHeader
pub mod WrittenData
pub mod DataAgain
pub mod OwnNames
pub mod OwnData
pub mod WrittenLine
pub mod SaidAgain
mod SpanLemmas
mod EndLemmas
mod PairOrder
mod PlainValues
