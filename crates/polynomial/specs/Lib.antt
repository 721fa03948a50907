-- Polynomials over the field of a prime, in any number of variables.
pub mod Eval
pub mod Lead
pub mod Record
pub mod Sides
pub mod Layout
pub mod Poly
pub mod Distance
pub mod Fits
pub mod Fit
pub mod Powers
