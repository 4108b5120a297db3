pub mod Counted
pub mod Over
pub mod Titled
pub mod Written
pub use Rattle.wk_report_rules.specs.Pages
pub use Rattle.wk_report_rules.specs.Reports
pub use Rattle.wk_report_rules.specs.Texts
