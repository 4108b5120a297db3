pub mod Behind
pub mod Report
