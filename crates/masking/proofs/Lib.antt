-- What the proofs share.
pub mod Cells
