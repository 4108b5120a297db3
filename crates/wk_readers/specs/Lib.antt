pub mod Beginnings
pub mod Readers
pub mod Reads
pub mod Refreshes
pub mod Worked
pub use Rattle.wk_shared.specs.Looks
pub use Rattle.wk_shared.specs.Sought
