pub mod MemLinks
pub mod Sending
