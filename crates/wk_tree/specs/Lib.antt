pub mod Laid
pub mod Layout
pub mod Matching
pub mod Parsed
pub mod Shown
pub mod Tokens
pub mod Tree
