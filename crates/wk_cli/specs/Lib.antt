pub mod Finished
pub mod Scripted
pub mod Works
pub mod Reported
pub mod Followed
pub mod Statuses
