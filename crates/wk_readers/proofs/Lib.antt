pub mod EndLaws
pub mod MadeLaws
pub mod ReaderLaws
pub mod StepLaws
pub mod WorkLaws
pub use Rattle.wk_shared.proofs.LookLaws
