pub mod Computing
pub mod Heads
pub mod Messages
pub mod Responses
