-- `polynomial::bivariate::row_values` meets its contract: the sums have as many terms at each column point as columns were taken.
-- Assumes nothing.
use mathlib.Core.Path.{◌≡◌}
use mathlib.Core.List.{List, []}
use Prim.Native.Nat.{ℕ, ◌+◌}
use lib.ListN.{length, get_or}
use Rattle.bounded.specs.Bounded.{at}
use Rattle.field.specs.Row.{row}
use Rattle.polynomial.proofs.Powers.{terms}
use Rattle.polynomial.proofs.bivariate.row_values.Given as goal

-- the coefficients of row r
abbrev pub coefficients : (columns : List (List ℕ)) (r : ℕ) → ℕ → ℕ
coefficients columns r t = at (get_or columns t []) r

abbrev pub invariant-loop-column : goal.invariant-loop-column
invariant-loop-column l = l.sum ≡ row (terms l.powers (coefficients l.columns l.r) (length l.yielded + 1))
