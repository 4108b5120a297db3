pub mod Requests
pub mod Modules
pub mod Reading
pub mod Computing
