-- What a plan says, as a struct.
pub mod Bytes
pub mod Says
pub mod Found
