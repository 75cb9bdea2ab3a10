pub mod Reordered
pub mod AnyOrder
pub mod OneOrder
