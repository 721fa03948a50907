-- The laws of what a plan says.
pub mod Reached
pub mod Residues
pub mod Said
pub mod Values
pub mod Records
