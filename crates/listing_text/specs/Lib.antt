pub mod Limits
pub mod Line
