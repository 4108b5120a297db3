pub mod Runs
pub mod Lives
pub mod Next
pub mod Sound
pub mod Standing
pub mod Caches
