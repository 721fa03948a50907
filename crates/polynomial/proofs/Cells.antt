-- The values of one row are cells of the flat grid.
--
--   grid-row   place j of the values of row r is cell r b + j
--
-- What this file is for: a mark is written and measured row by row. Assumes nothing.
use mathlib.Core.Path.{◌≡◌}
use mathlib.Core.List.{List}
use Prim.Native.Nat.{ℕ, ◌+◌, ◌*◌, ◌≤◌, ◌<◌}
use native.Mathlib.Omega.{arith}
use Rattle.bounded.specs.Bounded.{at}
use Rattle.bounded.proofs.Sum.{cell_row, cell-column}
use Rattle.field.specs.Row.{row}
use Rattle.field.proofs.Row.{row_at}
use Rattle.polynomial.specs.Record.{value_xy, grid_value}

-- the values v of row r, for the row points x and the b column points y
pub grid-row : (p d b r : ℕ) (x y F : List ℕ) {v : List ℕ} → b ≤ 16 → v ≡ row (λ j. value_xy p d F (at x r) (at y j)) →
    (j : ℕ) → j < b → at v j ≡ grid_value p d b (at x) (at y) F (r * b + j)
grid-row p d b r x y F h e j l = let k : j < 16 = omega arith in
    rw (e, row_at (λ j. value_xy p d F (at x r) (at y j)) j k, cell_row b r j l, cell-column b r j l)
