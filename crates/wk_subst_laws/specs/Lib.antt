pub mod Limits
pub mod Rounds
