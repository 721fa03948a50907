-- What the proofs of those who write share.
pub mod Room
