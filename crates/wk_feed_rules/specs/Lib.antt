pub mod Lines
pub mod Reading
pub mod Feeds
pub mod Taking
pub mod Computing
