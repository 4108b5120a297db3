pub mod Cells
pub mod Entries
pub mod Lists
pub mod Tables
pub mod Turns
