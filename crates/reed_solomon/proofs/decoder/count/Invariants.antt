-- `reed_solomon::decoder::count` meets its contract: what is marked below j. Assumes nothing.
use mathlib.Core.Path.{◌≡◌}
use Prim.Native.Nat.{◌≤◌}
use Rattle.bounded.specs.Bounded.{at, sum}
use Rattle.reed_solomon.proofs.decoder.count.Given as goal

abbrev pub invariant-loop-j : goal.invariant-loop-j
invariant-loop-j l = (l.marked ≡ sum l.j (at l.v)) × (l.marked ≤ l.j)
