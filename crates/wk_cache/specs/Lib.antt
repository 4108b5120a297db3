pub mod Entries
pub mod Keyed
pub mod Lends
