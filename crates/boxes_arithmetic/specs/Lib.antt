pub mod Outward
pub mod Limits
