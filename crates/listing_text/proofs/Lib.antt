pub mod Puts
mod Digits
