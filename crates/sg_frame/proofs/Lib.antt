pub mod CountLemmas
pub mod FramingLemmas
pub mod ItemLemmas
pub mod MomentLemmas
pub mod RecordLemmas
pub mod ScanLemmas
pub mod TimelyLemmas
