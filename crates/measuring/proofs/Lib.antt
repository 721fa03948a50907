-- The laws of measuring row by row.
pub mod Rows
