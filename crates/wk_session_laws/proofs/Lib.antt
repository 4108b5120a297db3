pub mod Kept
pub mod Pointed
pub mod Transformed
