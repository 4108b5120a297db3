pub mod Atoms
pub mod Computing
pub mod Redirects
pub mod Reduction
pub mod Selection
pub mod Tags
pub mod Tree
pub mod Trees
