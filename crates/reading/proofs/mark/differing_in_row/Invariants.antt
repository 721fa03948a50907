-- `reading::mark::differing_in_row` meets its contract: the cells before i are counted. Assumes nothing.
use mathlib.Core.Path.{◌≡◌}
use Prim.Native.Nat.{◌≤◌}
use Rattle.bounded.specs.Bounded.{at}
use Rattle.distance.specs.Cost.{hamming}
use Rattle.reading.specs.Differing.{flag}
use Rattle.reading.proofs.mark.differing_in_row.Given as goal

abbrev pub invariant-loop-i : goal.invariant-loop-i
invariant-loop-i l = (l.sum ≡ hamming l.i (λ c. flag (at l.symbols c) (at l.left c)) (λ _. 0)) × (l.sum ≤ l.i)
