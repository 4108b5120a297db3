pub mod Members
pub mod Titles
pub mod Told
pub use Rattle.wk_view_rules.specs.Rows
