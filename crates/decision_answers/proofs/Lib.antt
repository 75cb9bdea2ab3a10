pub mod Unspent
