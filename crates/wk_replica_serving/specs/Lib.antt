pub mod Feeds
pub mod Reads
pub mod Served
pub mod Taken
