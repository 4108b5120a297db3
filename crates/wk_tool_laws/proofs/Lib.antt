pub mod Differing
pub mod JobsAdded
