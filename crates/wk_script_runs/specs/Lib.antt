pub mod Ends
pub mod Lines
pub mod Lives
pub mod Outside
pub mod Reads
pub mod Served
pub mod Serving
pub mod Through
