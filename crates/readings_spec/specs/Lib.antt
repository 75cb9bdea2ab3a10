pub mod Exact
pub mod FromBits
pub mod Causes
pub mod Reading
pub mod Allowed
pub mod SideCall
