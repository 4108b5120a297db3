pub mod Among
pub mod FromPage
pub mod JobKinds
pub mod Judged
pub mod Last
pub mod Order
pub mod Params
pub use Rattle.wk_table_rules.specs.GoodStore
