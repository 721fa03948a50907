-- The laws of the answers.
pub mod Difference
pub mod Summary
