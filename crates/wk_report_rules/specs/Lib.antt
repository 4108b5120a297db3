pub mod Reports
pub mod Pages
pub mod Texts
pub mod Computing
