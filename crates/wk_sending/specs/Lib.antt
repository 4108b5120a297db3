pub mod Replied
pub mod Sending
pub use Rattle.wk_session_rules.specs.Replies
pub use Rattle.wk_session_rules.specs.Sessions
