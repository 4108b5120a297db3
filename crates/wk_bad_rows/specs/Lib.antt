pub mod Keys
pub use Rattle.wk_table_rules.specs.GoodStore
