pub mod Ascii
pub mod Colons
pub mod Legal
pub mod Names
pub mod Normal
pub mod Placed
pub mod Shown
