pub mod PageLinks
pub mod Parts
pub mod Saved
pub use Rattle.wk_wiki_rules.specs.TableChanges
pub use Rattle.wk_wiki_rules.specs.Tables
