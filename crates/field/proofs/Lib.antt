-- The laws of numbers modulo a prime.
pub mod Congruence
pub mod Prime
pub mod Made
pub mod Loop
pub mod Reciprocal
pub mod Row
