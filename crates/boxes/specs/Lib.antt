pub mod ReachPlan
pub mod ReachResult
pub mod ReachAnswer
pub mod Limits
