-- What measuring some cells gives.
--
--   Measured f n s u v D k    D is the cost of the values v in the n cells with symbols s and doubts u, f being the full doubt,
--                             and k how many of them differ
--
-- What this file is for: it holds of a row, of the rows so far, and of the whole mark.
use Rattle.std.specs.Prelude.{◌≡◌, ℕ}
use Rattle.distance.specs.Cost.{cost, hamming}

pub record Measured (f n : ℕ) (s u v : ℕ → ℕ) (D k : ℕ) : Type 0 where
  pub sum : D ≡ cost f n s u v
  pub count : k ≡ hamming n s v
