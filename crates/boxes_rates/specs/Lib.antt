pub mod Plant
pub mod Limits
pub mod Known
