-- `polynomial::evaluation::values` meets its contract: the sums have as many terms at each point as coefficients were taken.
-- Assumes nothing.
use mathlib.Core.Path.{◌≡◌}
use Prim.Native.Nat.{◌+◌}
use lib.ListN.{length}
use Rattle.bounded.specs.Bounded.{at}
use Rattle.field.specs.Row.{row}
use Rattle.polynomial.proofs.Powers.{terms}
use Rattle.polynomial.proofs.evaluation.values.Given as goal

abbrev pub invariant-loop-c : goal.invariant-loop-c
invariant-loop-c l = l.sum ≡ row (terms l.powers (at l.fn.w) (length l.yielded + 1))
