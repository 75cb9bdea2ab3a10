pub mod Turn
pub mod Bounds
