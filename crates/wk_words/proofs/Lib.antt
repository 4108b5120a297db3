pub mod FaultLengths
pub mod Ranges
pub mod NumberLemmas
pub mod TakenLemmas
pub mod VerdictLemmas
pub mod RowLemmas
