pub mod DigitLemmas
pub mod PartLemmas
pub mod ReadLemmas
pub mod SignLemmas
pub mod ZeroLemmas
