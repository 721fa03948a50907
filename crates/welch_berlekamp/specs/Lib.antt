-- What the contracts of the interpolation say.
pub mod Order
pub mod Interpolation
pub mod Pairs
pub mod Newton
