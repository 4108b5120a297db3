pub mod Declined
pub mod Numbered
pub mod Readings
pub use Rattle.wk_request.specs.Asked
pub use Rattle.wk_answer_rules.specs.Answers
pub use Rattle.wk_listings.specs.Replied
pub use Rattle.wk_saving.specs.Saved
