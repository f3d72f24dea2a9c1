pub mod Plans
pub mod SingleSteps
pub mod StepAnswers
pub mod inner
