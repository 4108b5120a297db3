pub mod Cells
pub mod Said
pub use Rattle.wk_feed_rules.specs.Lines
pub use Rattle.wk_feed_rules.specs.Reading
