pub mod Checks
pub mod Generator
pub mod Saving
pub mod Computing
