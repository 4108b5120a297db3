pub mod Owners
pub mod Replied
pub mod Shapes
pub use Rattle.wk_request.specs.Asked
pub use Rattle.wk_answer_rules.specs.Lists
pub use Rattle.wk_answer_rules.specs.Answers
