pub mod Bytes
pub mod Cells
pub mod Events
pub mod Feeders
