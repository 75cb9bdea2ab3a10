pub mod Decision
pub mod Recovery
