pub mod KnownItems
pub mod ResumedLaws
