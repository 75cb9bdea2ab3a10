mod Sides
mod Turn
mod Arrival
mod Passing
