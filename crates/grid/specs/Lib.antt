-- The grid of a mark: its lines, and what is left of it.
pub mod Loops
pub mod Axes
pub mod Line
pub mod Answers
pub mod Cost
pub mod Rest
pub mod Drawn
