pub mod Going
pub mod Outcomes
pub mod Reads
pub mod Reopened
pub mod Seen
pub mod Told
pub mod Drafts
