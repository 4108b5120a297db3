pub mod Drains
pub mod Returns
pub mod Serves
