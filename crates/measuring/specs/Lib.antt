-- What the contracts of measuring need beside the definitions.
pub mod Measured
