pub mod EditRanges
pub mod Told
