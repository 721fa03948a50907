-- The laws of the weighted distance.
pub mod Cost
pub mod Level
pub mod Loaded
