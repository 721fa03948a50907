-- Columns on a grid g, whose row t has the coefficients before Y^t, by rising power of X: what they leave of the symbols s.
--
--   found columns i t   the coefficient before X^i Y^t
--   Without g left z w left'
--                       each row of what is left, less its number of z times the row w
--   Lessened g t column left left' r
--                       row r of what is left, less the column's value there times Y^t
--   Drawn g k s u left columns
--                       the columns of Y^k and higher are subtracted, whatever they are
--   left-over g u left  what is left, measured
--   Completed g t u columns left left' cost
--                       where there is a cost, under the radius: what all columns leave costs so much, if those of Y^t and higher
--                       were subtracted; else what is left is as it was
--
-- What this file is for: columns are subtracted one by one, and what they leave decides whether they are the answer.
use Rattle.std.specs.Prelude.{◌≡◌, Option, Some, None, List, ℕ, suc, ◌+◌, ◌*◌, ◌-◌, ◌%◌, ◌<◌}
use Rattle.bounded.specs.Bounded.{at}
use Rattle.field.specs.Row.{row}
use Rattle.polynomial.specs.Eval.{eval}
use Rattle.polynomial.specs.Powers.{Rows}
use Rattle.polynomial.specs.declared.Grid.{Grid}
use Rattle.polynomial.specs.Fit.{grid_radius}
use Rattle.grid.specs.Line.{Subtracted}
use Rattle.grid.specs.Cost.{remaining, lines, GridCosts}
use Rattle.grid.specs.Rest.{Rest}
use Rattle.grid.specs.Loops.{line, cell_at}

abbrev pub found : List (List ℕ) → ℕ → ℕ → ℕ
found columns i t = cell_at columns t i

pub record Without (g : Grid) (left : List (List ℕ)) (z w : List ℕ) (left' : List (List ℕ)) : Type 0 where
  pub rows : Rows g.modulus.p left'
  pub each : (r : ℕ) → r < g.a → line left' r ≡ row λ c. (cell_at left r c + (g.modulus.p - at z r) * at w c) % g.modulus.p

abbrev pub Lessened : (g : Grid) (t : ℕ) (column : List ℕ) (left left' : List (List ℕ)) (r : ℕ) → Type 0
Lessened g t column left left' r = Subtracted (g.modulus.p - 1) g.b t (at g.y) (eval (suc (g.d - t)) (at column) (at g.x r))
    (cell_at left r) (cell_at left' r)

pub record Drawn (g : Grid) (k : ℕ) (s u left columns : List (List ℕ)) : Type 0 where
  pub rows : Rows g.modulus.p left
  pub coefficients : Rows g.modulus.p columns
  pub costs : GridCosts (g.modulus.p - 1) g.full g.a g.b g.d (at g.x) (at g.y) (cell_at u) k (cell_at s) (cell_at left)
      (found columns)
  pub rest : Rest (g.modulus.p - 1) g.a g.b g.d (at g.y) k (cell_at s) (cell_at left)
      (lines g.d (at g.x) (found columns))

abbrev pub left_over : Grid → (u left : List (List ℕ)) → ℕ
left_over g u left = remaining g.full g.a g.b (cell_at u) (cell_at left)

pub record Completed (g : Grid) (t : ℕ) (u columns left left' : List (List ℕ)) (cost : Option ℕ) : Type 0 where
  pub under : (n : ℕ) → cost ≡ Some n → (n < grid_radius g) × (n ≡ left_over g u left') ×
      ((s : List (List ℕ)) → Drawn g t s u left columns → Drawn g 0 s u left' columns)
  pub over : cost ≡ None → left' ≡ left
