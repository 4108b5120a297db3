pub mod OnePass
pub mod Places
