-- Numbers modulo a prime.
pub mod Congruence
pub mod Prime
pub mod Loop
pub mod Row
pub mod Word
