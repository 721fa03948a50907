-- What the cells of a mark hold.
--
--   mark-length    a mark has its cells
--   mark-at        cell c of the mark of a record has its value there
--   mark-written   that of row i and column j has the value at the i-th row point and the j-th column point, and that of a strip
--                  the value at its row point
--
-- What this file is for: demand 2, in the words of document 01's polynomials. Assumes nothing.
use mathlib.Core.Path.{◌≡◌, ap₂, ◌∙◌}
use mathlib.Core.List.{List}
use Prim.Native.Nat.{ℕ, ◌+◌, ◌*◌, ◌<◌}
use native.Mathlib.Omega.{arith}
use lib.ListN.{length}
use Rattle.bounded.specs.Bounded.{at}
use Rattle.bounded.proofs.Sum.{cell_row, cell-column}
use Rattle.bounded.proofs.Tab.{length-tab, tab-at}
use Rattle.bounded.proofs.Part.{row_in}
use Rattle.polynomial.specs.Sides.{cell_point}
use Rattle.polynomial.specs.Record.{value_xy}
use Rattle.polynomial.proofs.Known.{value-strip-is, value_cell}
use Rattle.definitions.specs.Plan.{modulus, rows, columns, degree, row_point, column_point, side, point}
use Rattle.definitions.specs.Code.{Code, strip, oblong, cells, value, mark}
use Rattle.definitions.specs.Demands.{Written}

pub mark-length : (C : Code) (P F : List ℕ) → length (mark C P F) ≡ cells C P
unfolding mark
mark-length C P F = length-tab (cells C P) (value C P F)

pub mark-at : (C : Code) (P F : List ℕ) (c : ℕ) → c < cells C P → at (mark C P F) c ≡ value C P F c
unfolding mark
mark-at C P F c l = tab-at (cells C P) (value C P F) c l

pub mark-written : (C : Code) (P F : List ℕ) → Written C P F (mark C P F)
mark-written strip P F = (
  mark-length strip P F,
  λ i l. mark-at strip P F i l ∙ value-strip-is (modulus P) (degree P) F (cell_point 0 (side P) (point P) i),
)
mark-written oblong P F = (
  mark-length oblong P F,
  λ i j k l.
      mark-at oblong P F (i * columns P + j) (omega (arith, row_in i (rows P) (columns P) k))
      ∙ value_cell (modulus P) (degree P) F (side P) (point P) (i * columns P + j)
      ∙ ap₂ (λ r c. value_xy (modulus P) (degree P) F (row_point P r) (column_point P c)) (cell_row (columns P) i j l)
      (cell-column (columns P) i j l),
)
