pub mod Order
pub mod Bound
pub mod Division
pub mod Bytes
