-- `welch_berlekamp::order::keys` meets its contract: the keys are those of j cells. Assumes nothing.
use mathlib.Core.Path.{◌≡◌}
use Rattle.bounded.specs.Bounded.{at}
use Rattle.field.specs.Loop.{Upto}
use Rattle.welch_berlekamp.specs.Order.{key}
use Rattle.welch_berlekamp.proofs.order.keys.Given as goal

abbrev pub invariant-loop-j : goal.invariant-loop-j
invariant-loop-j l = Upto 16 0 (λ i v. v ≡ key l.j (at l.u i) i) l.out 16
