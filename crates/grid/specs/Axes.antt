-- The two axes of a grid, with the doubts and the powers that go with them.
--
--   line_axis g t   the axis of a line at the degree t
--   strip_axis g t R the axis of the strip of what the lines hand on, whose full doubt is the radius R of a line
--   DoubtRows g u   no doubt of the grid's cells is above the full doubt
--   ColumnPowers g ys
--                   row t of ys has the powers t of the column points, t ≤ d
--
-- What this file is for: what the decoder's parts lend each other.
use Rattle.std.specs.Prelude.{List, ℕ, ◌-◌, ◌<◌}
use Rattle.distance.specs.Doubts.{Doubts}
use Rattle.polynomial.specs.Powers.{Rows, Powers}
use Rattle.polynomial.specs.declared.Grid.{Grid}
use Rattle.reed_solomon.specs.declared.axis.Axis.{Axis}
use Rattle.grid.specs.Loops.{cell_at}

abbrev pub line_axis : Grid → ℕ → Axis
line_axis g t = record { modulus = g.modulus; x = g.y; n = g.b; k = t; full = g.full }

abbrev pub strip_axis : Grid → (t R : ℕ) → Axis
strip_axis g t R = record { modulus = g.modulus; x = g.x; n = g.a; k = g.d - t; full = R }

abbrev pub DoubtRows : Grid → List (List ℕ) → Type 0
DoubtRows g u = (r : ℕ) → r < g.a → Doubts g.full g.b (cell_at u r)

pub record ColumnPowers (g : Grid) (ys : List (List ℕ)) : Type 0 where
  pub rows : Rows g.modulus.p ys
  pub powers : Powers g.modulus.p g.y g.d ys
