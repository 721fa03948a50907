-- The weighted distance of a word from symbols with doubts.
pub mod Cost
pub mod Level
pub mod Doubts
pub mod Loaded
