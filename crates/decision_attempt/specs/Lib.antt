pub mod AttemptResult
pub mod Limits
