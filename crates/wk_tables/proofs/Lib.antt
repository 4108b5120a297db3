pub mod JobLaws
pub mod PageLaws
