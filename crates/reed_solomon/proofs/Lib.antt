-- The laws of the strip decoder.
pub mod Near
pub mod Trial
pub mod Levels
