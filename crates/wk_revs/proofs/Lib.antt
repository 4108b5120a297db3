pub mod BlankEnds
pub mod ChainLaws
pub mod NewestLaws
pub mod PageLaws
pub mod RowLaws
pub mod TitleLaws
