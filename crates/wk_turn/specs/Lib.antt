pub mod Journal
pub mod Line
pub mod Told
