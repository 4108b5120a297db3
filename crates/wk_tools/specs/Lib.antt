pub mod Lived
pub mod Outdated
pub mod Drains
pub mod Rounds
pub mod Saves
pub mod Generating
