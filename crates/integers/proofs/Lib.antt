pub mod Z
pub mod Division
pub mod Rounding
pub mod Bytes
pub mod Twos
pub mod Lists
pub mod Tests
mod Goals
