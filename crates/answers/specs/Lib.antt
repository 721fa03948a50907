-- What the contracts of the answers say.
pub mod Summary
