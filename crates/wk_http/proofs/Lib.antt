mod AcceptedLemmas
mod FieldLemmas
mod FrontLemmas
mod HeadLemmas
mod KnownLemmas
mod ListLemmas
pub mod MessageLemmas
mod PlaceLemmas
mod RequestLemmas
mod ResponseLemmas
mod TargetLemmas
