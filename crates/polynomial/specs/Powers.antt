-- Sixteen rows of sixteen: the powers of points, and what is worked out from them.
--
--   Rows p rows           sixteen rows of numbers below p
--   Powers p x d rows     row t has the powers t of the sixteen points x, modulo p, t ≤ d; 0^0 is 1
--   Columns p d x F rows  row t has, for each row point, the coefficient of Y^t there, t ≤ d: the record F with X put in
--
-- What this file is for: the powers of the points are made once for each axis, and values at all points are then sums of rows.
use Rattle.std.specs.Prelude.{◌≡◌, List, [], ℕ, suc, ◌%◌, ◌^◌}
use Rattle.bounded.specs.Bounded.{at}
use Rattle.field.specs.Loop.{Upto}
use Rattle.field.specs.Row.{row, Row}
use Rattle.polynomial.specs.Record.{coef, column}

abbrev pub Rows : ℕ → List (List ℕ) → Type 0
Rows p rows = Upto 16 [] (λ t l. Row p l) rows 16

abbrev pub Powers : (p : ℕ) (x : List ℕ) (d : ℕ) → List (List ℕ) → Type 0
Powers p x d rows = Upto 16 [] (λ t l. l ≡ row λ j. at x j ^ t % p) rows (suc d)

abbrev pub Columns : (p d : ℕ) (x F : List ℕ) → List (List ℕ) → Type 0
Columns p d x F rows = Upto 16 [] (λ t l. l ≡ row λ r. column d (coef F) t (at x r) % p) rows (suc d)
