-- `reed_solomon::decoder::doubt_sum` meets its contract: the sum of the first j doubts. Assumes nothing.
use mathlib.Core.Path.{◌≡◌}
use Prim.Native.Nat.{◌*◌, ◌≤◌}
use Rattle.bounded.specs.Bounded.{at, sum}
use Rattle.reed_solomon.proofs.decoder.doubt_sum.Given as goal

abbrev pub invariant-loop-j : goal.invariant-loop-j
invariant-loop-j l = (l.doubts ≡ sum l.j (at l.u)) × (l.doubts ≤ 65535 * l.j)
