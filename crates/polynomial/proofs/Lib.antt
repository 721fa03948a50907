-- The laws of polynomials.
pub mod Lead
pub mod Roots
pub mod Eval
pub mod Unique
pub mod Distance
pub mod Lines
pub mod Far
pub mod Poly
pub mod Additive
pub mod Known
pub mod Record
pub mod Points
pub mod Coefficients
pub mod Powers
pub mod Beside
pub mod Columns
pub mod Cells
