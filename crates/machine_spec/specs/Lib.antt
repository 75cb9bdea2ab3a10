pub mod Box
pub mod Machine
pub mod Rate
pub mod Clamped
pub mod Accepted
