pub mod Order
pub mod Bounds
pub mod Quotient
pub mod Command
pub mod Capped
