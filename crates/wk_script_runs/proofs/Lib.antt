pub mod Answering
pub mod Counts
pub mod Ended
pub mod Lives
pub mod Reading
pub mod Restarting
pub mod Serving
