pub mod Members
pub mod PageTable
pub mod Rising
pub mod TableHeld
pub use Rattle.wk_page_rules.specs.PageRows
pub use Rattle.wk_table_rules.specs.Changes
pub use Rattle.wk_table_rules.specs.Rows
