pub mod Orders
pub mod Failures
pub mod Substituted
