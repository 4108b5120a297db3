pub mod ScriptLines
pub mod WikiScripts
pub mod Replies
pub mod Steps
pub mod Runs
pub mod Computing
