pub mod RefreshEdits
pub mod FanChanges
pub mod FanEdits
pub mod HeldJob
pub mod OldStores
pub mod NumberedRows
pub mod Served
pub mod SortedJobs
