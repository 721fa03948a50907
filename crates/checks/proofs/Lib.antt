-- What the proofs share.
pub mod Tests
