pub mod FeedLaws
pub mod LineLaws
pub mod Lists
pub mod SharedLaws
