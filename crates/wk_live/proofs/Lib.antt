pub mod DraftLaws
pub mod FanLaws
pub mod LoadLaws
pub mod ReadLaws
pub mod SaveLaws
pub mod TicketLaws
