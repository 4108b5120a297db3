pub mod Saved
pub mod Transforming
pub use Rattle.wk_request.specs.Asked
pub use Rattle.wk_answer_rules.specs.Answers
pub use Rattle.wk_listings.specs.Replied
