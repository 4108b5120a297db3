pub mod Budget
pub mod Calls
pub mod Computing
pub mod Places
pub mod Substitution
