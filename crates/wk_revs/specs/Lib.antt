pub mod Chains
pub mod Edit
pub mod Revs
pub mod Standing
pub mod Verdict
pub use Rattle.wk_page_rules.specs.History
pub use Rattle.wk_page_rules.specs.Kept
