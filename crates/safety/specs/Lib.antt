pub mod Run
pub mod Asked
