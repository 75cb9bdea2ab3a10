pub mod Cut
pub mod Parts
pub mod Rates
mod RowNumbers
pub mod Terms
pub mod Ends
mod Chosen
mod Known
