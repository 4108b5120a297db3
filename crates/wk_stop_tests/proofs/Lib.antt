pub mod Drops
pub mod Fits
