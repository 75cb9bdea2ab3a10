pub mod Turn
mod ReachAnswer
