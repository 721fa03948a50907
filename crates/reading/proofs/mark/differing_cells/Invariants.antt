-- `reading::mark::differing_cells` meets its contract: the rows before r are counted. Assumes nothing.
use mathlib.Core.Path.{◌≡◌}
use Prim.Native.Nat.{◌*◌, ◌≤◌}
use Rattle.reading.specs.Differing.{differing_cells}
use Rattle.reading.proofs.mark.differing_cells.Given as goal

abbrev pub invariant-loop-r : goal.invariant-loop-r
invariant-loop-r l = (l.sum ≡ differing_cells l.r l.g.b l.symbols l.left) × (l.sum ≤ 16 * l.r)
