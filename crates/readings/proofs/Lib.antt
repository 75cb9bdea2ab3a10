pub mod Rounding
pub mod OneReading
pub mod Order
