-- The laws of a signed number in print.
pub mod Signed
