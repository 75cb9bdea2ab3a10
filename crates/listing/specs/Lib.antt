pub mod Limits
pub mod ListingSteps
pub mod Listed
