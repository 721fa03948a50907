-- The laws of the interpolation.
pub mod Cursor
pub mod Degrees
pub mod Entry
pub mod State
pub mod Interpolant
