pub mod Acting
pub mod Ending
pub mod Going
pub mod Restarted
pub mod Writing
