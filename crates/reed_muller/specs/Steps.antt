-- The degree steps of the decoder, on a grid g: symbols s, doubts u, what is left of the symbols, and columns, whose row t has
-- the coefficients found before Y^t, by rising power of X.
--
--   column r, known r   the column of Y^t that a step gives, and what is known of the lines; zeros and none where it gives none
--   Stepped g t left u left' ws r
--                       one step: the strip of what the lines hand on was read and gave the column of Y^t, or no answer; where it
--                       did, its values are subtracted, and the messages ws and the costs of r are what is known of the lines for
--                       the next step
--   Solving g k s u left columns ws vs
--                       the steps' invariant: the coefficients of Y^k and higher are found and subtracted
--   Solved g s u left columns cost
--                       what the columns leave costs so much, under the radius; where there is no cost, no record is under it
--   Drafted g s u left columns cost
--                       a draft of all columns: where it has a cost it is the answer, else what is left are all symbols
--
-- What this file is for: what one step and all steps hand over, in the words of the laws of the degree step.
use Rattle.std.specs.Prelude.{◌≡◌, true, is_some, Option, Some, None, List, [], ℕ, suc, ◌*◌, ◌-◌, ◌<◌, replicate}
use Rattle.bounded.specs.Bounded.{at}
use Rattle.field.specs.Row.{Row}
use Rattle.polynomial.specs.Powers.{Rows}
use Rattle.polynomial.specs.declared.Grid.{Grid}
use Rattle.polynomial.specs.Fit.{grid_radius}
use Rattle.reed_solomon.specs.Strip.{Strip}
use Rattle.grid.specs.Line.{HandsOn}
use Rattle.grid.specs.Cost.{lines}
use Rattle.grid.specs.Rest.{Rest}
use Rattle.grid.specs.Loops.{cell_at}
use Rattle.grid.specs.Answers.{KnownRows}
use Rattle.grid.specs.Drawn.{found, Lessened, left_over, Drawn}
use Rattle.reed_muller.specs.declared.solver.Column.{Column}
use Rattle.reed_muller.specs.Degree.{GridNear, GridLeft}

abbrev pub column : Option Column → List ℕ
column (Some c) = c.message
column None = replicate 16 0

abbrev pub known : Option Column → List (Option ℕ)
known (Some c) = c.known
known None = []

pub record Stepped (g : Grid) (t : ℕ) (left u left' ws : List (List ℕ)) (r : Option Column) : Type 0 where
  pub e : List ℕ
  pub v : List ℕ
  pub cost : ℕ
  pub handed : (r : ℕ) → r < g.a → HandsOn (g.modulus.p - 1) g.full g.b t (at g.y) (cell_at left r) (cell_at u r) (at e r)
      (at v r)
  pub strip : Strip (g.modulus.p - 1) (g.full * (g.b - t)) g.a (g.d - t) (at g.x) (at e) (at v) (is_some r) (at (column r)) cost
  pub good : Row g.modulus.p (column r)
  pub lines : Rows g.modulus.p ws
  pub rows : is_some r ≡ true → Rows g.modulus.p left'
  pub subtracted : is_some r ≡ true → (i : ℕ) → i < g.a → Lessened g t (column r) left left' i
  pub known : is_some r ≡ true → (j : ℕ) → t ≡ suc j → KnownRows g j left' u ws (known r)

pub record Solving (g : Grid) (k : ℕ) (s u left columns ws : List (List ℕ)) (vs : List (Option ℕ)) : Type 0 where
  pub rows : Rows g.modulus.p left
  pub coefficients : Rows g.modulus.p columns
  pub steps : GridLeft (g.modulus.p - 1) g.full g.a g.b g.d (at g.x) (at g.y) (cell_at u) k (cell_at s) (cell_at left)
      (found columns)
  pub rest : Rest (g.modulus.p - 1) g.a g.b g.d (at g.y) k (cell_at s) (cell_at left)
      (lines g.d (at g.x) (found columns))
  pub known : (j : ℕ) → k ≡ suc j → KnownRows g j left u ws vs

pub record Solved (g : Grid) (s u left columns : List (List ℕ)) (cost : Option ℕ) : Type 0 where
  pub under : (n : ℕ) → cost ≡ Some n → (n < grid_radius g) × (n ≡ left_over g u left) × Drawn g 0 s u left columns
  pub over : cost ≡ None → (h : ℕ → ℕ → ℕ) → GridNear (g.modulus.p - 1) g.full g.a g.b g.d (at g.x) (at g.y)
      (cell_at u) (cell_at s) h → ⊥

pub record Drafted (g : Grid) (s u left columns : List (List ℕ)) (cost : Option ℕ) : Type 0 where
  pub coefficients : Rows g.modulus.p columns
  pub under : (n : ℕ) → cost ≡ Some n → Solved g s u left columns cost
  pub over : cost ≡ None → left ≡ s
