-- What the calls guarantee, and what their proofs share.
pub mod Demands
pub mod Answer
