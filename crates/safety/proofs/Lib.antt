pub mod Everything
pub mod Held
pub mod Acting
pub mod Run
pub mod Start
pub mod Progress
pub mod Asked
mod RunTest
pub mod ExampleRuns
mod ExampleSafety
mod ExampleSpans
mod ExampleReadings
