-- The flat record of document 01, made from the columns: row t of them has the coefficients of Y^t, by rising power of X.
--
--   Grouped columns k j old r   r is old with the first j coefficients of the group of total degree k written, and whatever there
--                               was behind them
--   Flat columns k r            the groups of total degree below k in r are those of the columns
--
-- What this file is for: the decoder finds the coefficients of one power of Y at a time, and a record is by total degree.
use Rattle.std.specs.Prelude.{◌≡◌, List, ℕ, ◌+◌, ◌<◌, length}
use Rattle.bounded.specs.Bounded.{at}
use Rattle.polynomial.specs.Record.{start, coef, longest}
use Rattle.grid.specs.Loops.{cell_at}

pub record Grouped (columns : List (List ℕ)) (k j : ℕ) (old r : List ℕ) : Type 0 where
  pub size : length r ≡ longest
  pub group : (t i : ℕ) → i + t ≡ k → t < j → coef r i t ≡ cell_at columns t i
  pub kept : (m : ℕ) → m < start k → at r m ≡ at old m

pub record Flat (columns : List (List ℕ)) (k : ℕ) (r : List ℕ) : Type 0 where
  pub size : length r ≡ longest
  pub is : (t i : ℕ) → i + t < k → coef r i t ≡ cell_at columns t i
