pub mod Lives
pub mod Comparing
pub mod Drained
pub mod Generated
pub mod Opening
pub mod Served
pub mod Fed
pub mod Followed
