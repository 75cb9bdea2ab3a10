pub mod Causes
pub mod Exact
pub mod FromBits
pub mod Allowed
pub mod Sides
pub mod Examples
