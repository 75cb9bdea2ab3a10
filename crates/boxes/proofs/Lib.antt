mod Answer
pub mod Turn
pub mod Bounds
