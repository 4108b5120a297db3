pub mod Points
pub mod Replies
pub mod Steps
pub mod Exchanges
pub mod Sessions
