pub mod Causes
mod Checks
pub mod Complete
pub mod Full
pub mod Safe
pub mod Named
pub mod Texts
pub mod Fits
pub mod Ahead
