pub mod Rounding
pub mod Sides
