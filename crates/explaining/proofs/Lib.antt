-- What the proofs share.
pub mod Facts
