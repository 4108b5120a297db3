pub mod EachGood
pub mod Premises
pub mod InOrder
pub mod ClaimedFirst
