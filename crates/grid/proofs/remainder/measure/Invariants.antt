-- `grid::remainder::measure` meets its contract: the rows before r are measured; a row costs at most 2,097,152.
-- Assumes nothing.
use mathlib.Core.Path.{◌≡◌}
use Prim.Native.Nat.{◌*◌, ◌≤◌}
use Rattle.grid.specs.Cost.{remaining}
use Rattle.grid.specs.Loops.{cell_at}
use Rattle.grid.proofs.remainder.measure.Given as goal

abbrev pub invariant-loop-r : goal.invariant-loop-r
invariant-loop-r l =
    (l.sum ≡ remaining l.g.full l.r l.g.b (cell_at l.doubts) (cell_at l.left)) × (l.sum ≤ 2097152 * l.r)
