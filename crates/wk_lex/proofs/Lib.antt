pub mod AtomSteps
pub mod ElementLemmas
pub mod FirstLemmas
pub mod LexerLemmas
pub mod NameLemmas
pub mod PartSteps
pub mod NearestLemmas
pub mod PlaceLemmas
pub mod PlainLemmas
pub mod SpanSteps
pub mod TaglessLemmas
mod UnmarkedLemmas
