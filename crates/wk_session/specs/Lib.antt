pub mod Telling
pub mod Serving
pub mod Steps
pub use Rattle.wk_session_rules.specs.Points
pub use Rattle.wk_session_rules.specs.Replies
pub use Rattle.wk_session_rules.specs.Steps as StepRules
pub use Rattle.wk_session_rules.specs.Exchanges
pub use Rattle.wk_session_rules.specs.Sessions
