pub mod LineLaws
pub mod Numbers
