pub mod Line
pub mod LineCutter
pub use Rattle.wk_text_rules.specs.Blank
pub use Rattle.wk_text_rules.specs.Decimal
pub use Rattle.wk_text_rules.specs.Lines
