pub mod Bindings
pub mod Codes
pub mod Frames
pub mod Levels
pub mod Marks
