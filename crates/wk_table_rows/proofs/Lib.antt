pub mod FirstPlace
pub mod NumberLaws
pub mod PageRowLaws
pub mod PageTableLaws
pub mod RisingLaws
