-- Sums, tests, tables and first places over the numbers below a bound.
pub mod Bounded
