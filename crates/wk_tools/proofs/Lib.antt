pub mod FanWork
pub mod RefreshWork
pub mod LivesOn
pub mod Rounds
pub mod Outdated
pub mod Numbers
pub mod SavesPush
pub mod Generating
