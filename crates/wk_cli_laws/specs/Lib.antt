pub mod Causes
pub mod Complete
pub mod Example
pub mod Full
pub mod Room
