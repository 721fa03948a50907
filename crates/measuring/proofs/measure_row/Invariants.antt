-- `measuring::measure_row` meets its contract: the cells before j are measured. Assumes nothing.
use Prim.Native.Nat.{◌*◌, ◌≤◌}
use Rattle.bounded.specs.Bounded.{at}
use Rattle.measuring.specs.Measured.{Measured}
use Rattle.measuring.proofs.measure_row.Given as goal

abbrev pub invariant-loop-j : goal.invariant-loop-j
invariant-loop-j l =
    Measured l.full l.j (at l.symbols) (at l.doubts) (at l.values) l.cost l.differing
    × (l.cost ≤ 131072 * l.j) × (l.differing ≤ l.j)
