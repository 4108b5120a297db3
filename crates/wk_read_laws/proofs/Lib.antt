pub mod PageLaws
pub mod PointLaws
