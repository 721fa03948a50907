-- The mark decoder: Reed-Muller codes on a grid of points, with doubts.
pub mod Degree
pub mod Groups
pub mod Mark
pub mod Rest
pub mod Steps
pub mod Outcome
