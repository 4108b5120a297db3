pub mod Closing
pub mod Lists
pub mod Owning
pub mod Steps
