pub mod Entries
pub mod FanLists
pub mod Loaded
pub mod Numbered
pub mod Places
pub mod Sorting
pub mod Written
