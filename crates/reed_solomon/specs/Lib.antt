-- The strip decoder: Reed-Solomon codes with doubts.
pub mod Strip
pub mod Axis
pub mod Near
pub mod Decoded
