pub mod Lines
pub use Rattle.wk_report_rules.specs.Reports
pub use Rattle.wk_report_rules.specs.Texts
pub use Rattle.wk_report_laws.specs.Tally
