pub mod Computing
pub mod Kept
pub mod History
pub mod Verdict
pub mod PageRows
