-- The laws of sets of photographs.
pub mod Refused
pub mod Memory
pub mod Made
pub mod Held
pub mod Histories
pub mod Fresh
