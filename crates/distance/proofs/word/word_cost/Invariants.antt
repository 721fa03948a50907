-- `distance::word::word_cost` meets its contract: the sum is the cost of the first i cells. Assumes nothing.
use mathlib.Core.Path.{◌≡◌}
use Prim.Native.Nat.{◌*◌, ◌≤◌}
use Rattle.bounded.specs.Bounded.{at}
use Rattle.distance.specs.Cost.{cost}
use Rattle.distance.proofs.word.word_cost.Given as goal

abbrev pub invariant-loop-i : goal.invariant-loop-i
invariant-loop-i l = (l.sum ≡ cost l.full l.i (at l.symbols) (at l.doubts) (at l.values)) × (l.sum ≤ 131072 * l.i)
