pub mod Doors
pub mod Links
