pub mod Ended
pub mod Over
pub mod Statuses
