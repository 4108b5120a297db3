pub mod Args
pub mod Entries
