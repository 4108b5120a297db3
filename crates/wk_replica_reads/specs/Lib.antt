pub mod Answers
pub mod Sessions
pub mod Serving
pub mod Looks
pub mod Telling
pub mod Taking
pub use Rattle.wk_session_rules.specs.Points
pub use Rattle.wk_session_rules.specs.Replies
