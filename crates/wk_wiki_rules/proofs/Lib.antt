pub mod Lists
pub mod JobLemmas
