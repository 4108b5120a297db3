pub mod LabelLaws
pub mod RedirectLaws
