pub mod BindLaws
pub mod FrameLaws
pub mod LevelLaws
pub mod TrimLaws
