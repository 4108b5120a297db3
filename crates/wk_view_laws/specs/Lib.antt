pub mod Changes
pub mod Inclusions
pub mod Limits
pub mod Plans
pub mod Rounds
pub mod Titles
