pub mod AsciiTitles
pub mod Colons
pub mod Keys
pub mod Names
pub mod NormalLemmas
pub mod OnePass
pub mod SpacesLemmas
pub mod Squeeze
