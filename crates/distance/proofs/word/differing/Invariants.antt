-- `distance::word::differing` meets its contract: the count is that of the first i cells. Assumes nothing.
use mathlib.Core.Path.{◌≡◌}
use Prim.Native.Nat.{◌≤◌}
use Rattle.bounded.specs.Bounded.{at}
use Rattle.distance.specs.Cost.{hamming}
use Rattle.distance.proofs.word.differing.Given as goal

abbrev pub invariant-loop-i : goal.invariant-loop-i
invariant-loop-i l = (l.count ≡ hamming l.i (at l.v) (at l.w)) × (l.count ≤ l.i)
