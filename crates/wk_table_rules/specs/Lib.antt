pub mod Rows
pub mod Changes
pub mod Stored
pub mod JobTable
pub mod GoodStore
pub mod Computing
