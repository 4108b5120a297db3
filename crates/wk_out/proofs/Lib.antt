pub mod BlankLemmas
pub mod ErrorLaws
pub mod ListedLaws
pub mod PlainLaws
pub mod RunLaws
pub mod TrimLaws
