pub mod Entrances
pub mod MemDoor
pub mod Told
