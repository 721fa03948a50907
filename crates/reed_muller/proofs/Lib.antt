-- The laws of the mark decoder.
pub mod Degree
pub mod Groups
pub mod Last
pub mod Drafts
pub mod Steps
pub mod Outcome
