pub mod Answers
pub mod Calls
pub mod Desk
pub mod Apart
pub mod Looks
pub mod Sought
