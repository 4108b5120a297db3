pub mod AlikeLemmas
pub mod AtomLemmas
pub mod LayoutLemmas
pub mod MatchingLemmas
pub mod MeetingLemmas
pub mod StackLemmas
pub mod ViewLemmas
