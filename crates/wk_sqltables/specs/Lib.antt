pub mod StoreSchema
pub mod Entries
pub mod Held
pub mod Statements
pub mod LinkTables
pub mod Members
pub mod Rows
pub mod Edits
