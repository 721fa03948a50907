-- `measuring::measure_rows` meets its contract: the rows below r are measured. Assumes nothing.
use mathlib.Core.List.{List}
use Prim.Native.Nat.{ℕ, ◌*◌, ◌≤◌}
use Rattle.bounded.specs.Bounded.{at}
use Rattle.polynomial.specs.Record.{grid_value}
use Rattle.polynomial.specs.Powers.{Powers, Columns}
use Rattle.measuring.specs.Measured.{Measured}
use Rattle.measuring.proofs.measure_rows.Given as goal

abbrev pub invariant-loop-r : goal.invariant-loop-r
invariant-loop-r l =
    let p = l.g.modulus.p in
    let d = l.g.d in
    (l.cost ≤ 2097152 * l.r) × (l.differing ≤ 16 * l.r)
    × ((x y F : List ℕ) → Columns p d x F l.columns → Powers p y d l.ys →
    Measured l.g.full (l.r * l.b) (at l.symbols) (at l.doubts) (grid_value p d l.b (at x) (at y) F) l.cost l.differing)
