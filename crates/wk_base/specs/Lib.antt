pub mod Adapters
pub mod Calls
pub mod Clock
pub mod Faults
pub mod Forms
pub mod Writing
