pub mod CallCounts
pub mod FailKeeper
pub mod FailVault
pub mod NamedTables
pub mod Stores
pub use Rattle.wk_table_rules.specs.Rows
pub use Rattle.wk_table_rules.specs.Changes
