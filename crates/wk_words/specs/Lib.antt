pub mod Commands
pub mod Reports
pub mod Options
pub mod Verdicts
pub mod Answers
