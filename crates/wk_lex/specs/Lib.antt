pub mod Ahead
pub mod FirstBytes
pub mod Parts
pub mod Places
pub mod Selections
pub mod Spans
pub use Rattle.wk_tree_rules.specs.Atoms
pub use Rattle.wk_tree_rules.specs.Selection
