pub mod Orders
pub mod Points
pub mod Possible
pub mod Calm
pub mod Floats
pub mod Lines
pub mod Substs
