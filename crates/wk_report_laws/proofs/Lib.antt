pub mod Expanded
pub mod Sorting
pub mod Tallies
pub mod Walks
