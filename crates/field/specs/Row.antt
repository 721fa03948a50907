-- Rows of sixteen numbers modulo p, and the reciprocal by which they are reduced.
--
--   row f            the sixteen numbers f 0 .. f 15
--   Row p l          l is sixteen numbers below p; so is the 0 that a read beyond its end gives
--   Reciprocal p m   p is from 2 to 251, and m is 65536 / p
--
-- What this file is for: the field work is done on whole rows, and a function on rows says what stands in each place.
use Rattle.std.specs.Prelude.{◌≡◌, List, ℕ, ◌+◌, ◌*◌, ◌≤◌, ◌<◌, length}
use Rattle.bounded.specs.Bounded.{at, tab}

abbrev pub row : (ℕ → ℕ) → List ℕ
row f = tab 16 f

pub record Row (p : ℕ) (l : List ℕ) : Type 0 where
  pub size : length l ≡ 16
  pub small : (j : ℕ) → at l j < p

pub record Reciprocal (p m : ℕ) : Type 0 where
  pub least : 2 ≤ p
  pub most : p ≤ 251
  pub low : m * p ≤ 65536
  pub high : 65536 < m * p + p
