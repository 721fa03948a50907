-- `reading::mark::total` meets its contract: the doubts so far are summed, each a byte. Assumes nothing.
use mathlib.Core.Path.{◌≡◌}
use Prim.Native.Nat.{◌*◌, ◌≤◌}
use Rattle.bounded.specs.Bounded as bounded
use Rattle.bounded.specs.Bounded.{at}
use Rattle.reading.proofs.mark.total.Given as goal

abbrev pub invariant-loop-doubt : goal.invariant-loop-doubt
invariant-loop-doubt l = (l.sum ≡ bounded.sum l.doubt-index (at l.doubts)) × (l.sum ≤ 255 * l.doubt-index)
