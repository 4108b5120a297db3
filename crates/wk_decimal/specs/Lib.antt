pub mod Digits
pub mod Numeral
pub mod Parts
pub use Rattle.wk_text_rules.specs.Numerals
