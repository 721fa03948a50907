-- Drafts of a mark's columns.
pub mod Redrawn
