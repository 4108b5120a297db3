pub mod Values
pub mod ApiErrors
pub mod Pages
pub mod Lists
pub mod Saves
pub mod Transforms
pub mod Answers
pub mod Computing
