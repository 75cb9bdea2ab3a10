pub mod Allowance
pub mod StepResult
pub mod Limits
