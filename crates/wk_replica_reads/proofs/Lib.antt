pub mod Answering
pub mod ApartLaws
pub mod Ends
pub mod Lists
pub mod LookLaws
pub mod ReadLaws
pub mod Replying
pub mod TakeLaws
