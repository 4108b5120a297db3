pub mod SaveAnswers
mod TransformAnswers
