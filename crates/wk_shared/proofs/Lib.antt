pub mod Journals
pub mod Tickets
pub mod Outcomes
pub mod Made
pub mod AnswerLaws
pub mod ApartLaws
pub mod KeepLaws
pub mod LookLaws
