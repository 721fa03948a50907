-- The laws of sums, tests, tables and first places.
pub mod Parts
pub mod Sum
pub mod Any
pub mod Tab
pub mod Part
pub mod Index
