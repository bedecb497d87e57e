pub mod ByteOrder
mod PairPlaces
mod TextLemmas
mod PartChanges
mod PartSearch
mod DraftLemmas
mod SortedParts
mod PairSearch
pub mod KeptPairs
pub mod KeptTags
mod TagPlaces
mod Prefixes
pub mod ValueLaws
pub mod ManyPairs
mod SortedPairs
mod SunkPairs
mod OrderedPairs
mod FirstBytes
mod KnownNames
pub mod LengthLemmas
pub mod OfferLemmas
pub mod PairWalks
pub mod TagWalks
