pub mod OrderLaws
pub mod PrefixLaws
pub mod RowLaws
pub mod SpaceLaws
