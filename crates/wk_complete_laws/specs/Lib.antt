pub mod Answered
pub mod Complete
pub mod Example
