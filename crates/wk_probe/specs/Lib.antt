pub mod Drafted
pub mod Known
