mod Sheet
mod Reach
mod Decision
