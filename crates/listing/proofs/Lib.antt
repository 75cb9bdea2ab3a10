pub mod LongFile
pub mod ListingSteps
pub mod Vars
mod NextLength
